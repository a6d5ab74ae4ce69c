-- `all_boxes` has added up the sums in the boxes that it passed.
use native.Mathlib.Omega.{arith}
use Rattle.layout.proofs.Adding.{added_none, added_more, added-all}
use Rattle.rules.specs.Store.{all_boxes}
use Rattle.check_money.proofs.all_boxes.Goals as goal

pub loop-o-init : goal.loop-o-init
loop-o-init c = added_none _ _ _

pub overflow_add-total : goal.overflow_add-total
overflow_add-total c = omega arith

pub loop-o-preserved : goal.loop-o-preserved
loop-o-preserved c =
    let p = c.loop-o.invariant in
    added_more _ _ _ _ _ _ (omega arith) c.box_at-total.ensures.is (omega arith) p

pub returns : goal.returns
unfolding all_boxes
returns c = added-all _ _ _ _ _ (omega arith) c.loop-o.invariant
