-- `last_p1` meets its contract: it counts down from the slot where `skip_groups` stopped.
use Prim.Native.Nat.{◌-◌}
use native.Mathlib.Omega.{arith}
use Rattle.layout.specs.Layout as Layout
use Rattle.call_steps.proofs.Finding.{cell-is, cell-not, same_next, same_skipped, found-at, found-none, before}
use Rattle.call_steps.proofs.groups.last_p1.Goals as goal

pub loop-i-init : goal.loop-i-init
loop-i-init c =
    let a = c.args in
    let skipped = c.skip_groups-last.ensures in
    (omega arith, before _ (same_skipped Layout.P1 a.words.now a.p1 a.n _ (omega arith) skipped.low skipped.passed))

pub returns-then-words-i : goal.returns-then-words-i
returns-then-words-i c =
    let l = c.loop-i in
    found-at _ l.invariant.1 (omega arith) (cell-is Layout.P1 _ _ (l.i - 1) c.if-words-i.true)

pub loop-i-preserved : goal.loop-i-preserved
loop-i-preserved c =
    let l = c.loop-i in
    (omega arith, same_next _ l.invariant.1 (omega arith) (cell-not Layout.P1 _ _ (l.i - 1) c.if-words-i.false))

pub returns : goal.returns
returns c = found-none _ c.loop-i.invariant.1 (omega arith)
