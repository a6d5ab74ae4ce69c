-- `walk` meets its contract: whatever the chain from j on is found to be, so is the chain from head on.
use mathlib.Core.Path.{refl}
use mathlib.Core.Bool.{true}
use native.Mathlib.Omega.{arith}
use Rattle.check_chains.proofs.Marking.{visit-falls, going_start}
use Rattle.check_chains.proofs.Chains.{any-steps, walk-on, walk-broken, chain-end}
use Rattle.check_chains.proofs.chain.walk.Goals as goal

pub loop-j-init : goal.loop-j-init
loop-j-init c = going_start c.requires.marks

-- j is out of range
pub returns-then-n-j : goal.returns-then-n-j
returns-then-n-j c = walk-broken _ _ _ (any-steps _) c.loop-j.invariant c.loop-j-test.true (λ h z b. omega arith)

-- j was visited
pub returns-then-mark-ne0 : goal.returns-then-mark-ne0
returns-then-mark-ne0 c =
    walk-broken _ _ _ (any-steps _) c.loop-j.invariant c.loop-j-test.true (λ h z b. c.if-mark-ne0.true z)

pub loop-j-smaller : goal.loop-j-smaller
loop-j-smaller c = visit-falls c.loop-j.invariant.marks c.if-n-j.false c.if-mark-ne0.false

pub loop-j-preserved : goal.loop-j-preserved
loop-j-preserved c =
    walk-on _ _ _ (any-steps _) c.loop-j.invariant c.loop-j-test.true _
    c.if-n-j.false c.if-mark-ne0.false tt c.from-j.ensures

pub returns : goal.returns
returns c =
    let now = c.loop-j.invariant in
    now.leads _ _ (chain-end _ _ _ _ true now.marks (omega arith) (λ _. tt) (λ _. refl))
