-- `money_at` is what the slot adds to the total in the rules.
use native.Mathlib.Omega.{arith}
use mathlib.Core.Path.{sym, ◌∙◌}
use Rattle.check_money.proofs.Living.{money-free, money-child, money-master}
use Rattle.check_money.proofs.money_at.Goals as goal

pub returns-then-field-eq0 : goal.returns-then-field-eq0
returns-then-field-eq0 c b = sym (money-free b _ _ _ (omega arith))

pub returns-then-field-ne0 : goal.returns-then-field-ne0
returns-then-field-ne0 c b = sym (money-child b _ _ _ (λ z. omega arith) (λ z. omega arith))

pub returns : goal.returns
returns c b = c.field-3.ensures ∙ sym (money-master b _ _ _ (λ z. omega arith) (omega arith))
