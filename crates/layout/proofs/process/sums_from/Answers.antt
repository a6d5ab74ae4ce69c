-- `sums_from` has added up the sums of the messages that it passed.
use Rattle.std.proofs.Common.{arith}
use Rattle.layout.proofs.Summing.{gathered_none, gathered-more, gathered-all}
use Rattle.layout.proofs.process.sums_from.Goals as goal

pub loop-at-init : goal.loop-at-init
loop-at-init c = gathered_none _ _ _

pub overflow_add-total : goal.overflow_add-total
overflow_add-total c = omega (arith, c.loop-at.invariant.small)

pub loop-at-preserved : goal.loop-at-preserved
loop-at-preserved c =
    gathered-more _ _ _ _ _ _ (omega arith) (omega (arith, c.from-total.ensures, c.field.ensures)) (omega arith)
    c.loop-at.invariant

pub returns : goal.returns
returns c = gathered-all _ _ _ _ _ (omega arith) (omega arith) c.loop-at.invariant
