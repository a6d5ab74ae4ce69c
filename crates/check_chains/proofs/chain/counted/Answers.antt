-- `counted` meets its contract: whatever the chain of `left` records from j on is found to be, so is that of `need`
-- records from head on.
use mathlib.Core.Path.{sym}
use Prim.Native.Nat.{◌≤◌}
use native.Mathlib.Omega.{arith}
use lib.Dec.{eqb}
use borrow.Author.Tests.{eq-eqb, eqb-true}
use Rattle.check_chains.proofs.Marking.{visit-falls, going_start}
use Rattle.check_chains.proofs.Chains.{long-steps, walk-on, walk-broken, chain-end}
use Rattle.check_chains.proofs.chain.counted.Goals as goal

pub loop-j-init : goal.loop-j-init
loop-j-init c = going_start c.requires.marks

-- j is one too many
pub returns-then-left-eq0 : goal.returns-then-left-eq0
returns-then-left-eq0 c =
    let now = c.loop-j in
    walk-broken _ _ _ (long-steps now.left now.j) now.invariant c.loop-j-test.true (λ h z b. omega arith)

-- j is out of range
pub returns-then-n-j : goal.returns-then-n-j
returns-then-n-j c =
    let now = c.loop-j in
    walk-broken _ _ _ (long-steps now.left now.j) now.invariant c.loop-j-test.true (λ h z b. omega arith)

-- j was visited
pub returns-then-mark-ne0 : goal.returns-then-mark-ne0
returns-then-mark-ne0 c =
    let now = c.loop-j in
    walk-broken _ _ _ (long-steps now.left now.j) now.invariant c.loop-j-test.true (λ h z b. c.if-mark-ne0.true z)

pub loop-j-smaller : goal.loop-j-smaller
loop-j-smaller c = visit-falls c.loop-j.invariant.marks c.if-n-j.false c.if-mark-ne0.false

pub loop-j-preserved : goal.loop-j-preserved
loop-j-preserved c =
    let now = c.loop-j in
    let some : 1 ≤ now.left = omega (arith, c.if-left-eq0.false) in
    walk-on _ _ _ (long-steps now.left now.j) now.invariant c.loop-j-test.true _
    c.if-n-j.false c.if-mark-ne0.false some c.from-j.ensures

pub returns : goal.returns
returns c =
    let now = c.loop-j in
    now.invariant.leads _ _ (chain-end _ _ _ _ (eqb now.left 0) now.invariant.marks (omega arith)
    (λ e. sym (eqb-true now.left 0 e)) (λ e. eq-eqb now.left 0 (sym e)))
