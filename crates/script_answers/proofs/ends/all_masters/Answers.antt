-- `all_masters` has added up the moneywords of the slots that it passed.
use mathlib.Core.List.{[]}
use native.Mathlib.Omega.{arith}
use Rattle.layout.proofs.Adding.{added_none, added_more}
use Rattle.check_money.proofs.Living.{masters-added}
use Rattle.script_answers.proofs.ends.all_masters.Goals as goal

pub loop-i-init : goal.loop-i-init
loop-i-init c = λ b. added_none _ _ _

pub overflow_add-total : goal.overflow_add-total
overflow_add-total c = omega (arith, c.from-total.ensures, (c.loop-i.invariant []).small, (c.loop-i.invariant []).high)

pub loop-i-preserved : goal.loop-i-preserved
loop-i-preserved c =
    λ b.
    added_more _ _ _ _ _ _ (omega arith) (omega (arith, c.from-total.ensures, c.money_at.ensures b)) (omega arith) (c.loop-i.invariant b)

pub returns : goal.returns
returns c = λ b. masters-added _ _ _ _ _ (omega arith) (c.loop-i.invariant b)
