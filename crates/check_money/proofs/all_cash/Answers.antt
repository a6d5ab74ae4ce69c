-- `all_cash` has added up the cash of the slots that it passed.
use native.Mathlib.Omega.{arith}
use Rattle.layout.proofs.Adding.{added_none, added_more, added-all}
use Rattle.rules.specs.Store.{all_cash}
use Rattle.check_money.proofs.all_cash.Goals as goal

pub loop-o-init : goal.loop-o-init
loop-o-init c = added_none _ _ _

pub overflow_add-total : goal.overflow_add-total
overflow_add-total c = omega arith

pub loop-o-preserved : goal.loop-o-preserved
loop-o-preserved c =
    let p = c.loop-o.invariant in
    added_more _ _ _ _ _ _ (omega arith) (omega (arith, c.from-total.ensures, c.cash_at.ensures)) (omega arith) p

pub returns : goal.returns
unfolding all_cash
returns c = added-all _ _ _ _ _ (omega arith) c.loop-o.invariant
