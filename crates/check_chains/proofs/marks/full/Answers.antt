-- `full` meets its contract: its answer says whether the records above k are marked.
use mathlib.Core.Path.{refl}
use native.Mathlib.Omega.{arith}
use Rattle.layout.proofs.Deciding.{differs}
use Rattle.check_chains.proofs.Down.{down-start, down-on, down-end}
use Rattle.check_chains.proofs.marks.full.Goals as goal

pub loop-k-init : goal.loop-k-init
loop-k-init c = down-start _ _

pub bounds-seen-k : goal.bounds-seen-k
bounds-seen-k c = omega arith

pub loop-k-smaller : goal.loop-k-smaller
loop-k-smaller c = omega arith

pub loop-k-preserved : goal.loop-k-preserved
loop-k-preserved c = down-on c.loop-k.invariant c.loop-k-test.true (differs _ _) refl

pub returns : goal.returns
returns c = down-end c.loop-k.invariant (omega arith)
