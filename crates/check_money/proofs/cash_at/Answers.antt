-- `cash_at` is the cash of the slot in the rules.
use mathlib.Core.Path.{sym, ◌∙◌}
use Rattle.layout.proofs.Shown.{cash-here, cash-none}
use Rattle.check_money.proofs.cash_at.Goals as goal

pub returns-then-is_process : goal.returns-then-is_process
returns-then-is_process c =
    let p = sym c.is_process.ensures ∙ c.if-is_process.true in
    c.field.ensures ∙ sym (cash-here _ _ _ _ p)

pub returns : goal.returns
returns c =
    let p = sym c.is_process.ensures ∙ c.if-is_process.false in
    sym (cash-none _ _ _ _ p)
