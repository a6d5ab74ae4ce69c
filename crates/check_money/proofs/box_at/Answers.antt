-- `box_at` is what the slot's box holds in the rules.
use native.Mathlib.Omega.{arith}
use mathlib.Core.Path.{sym, ◌∙◌}
use Rattle.check_money.proofs.Living.{sums-here, sums_none}
use Rattle.check_money.proofs.box_at.Goals as goal

pub returns-then-is_process : goal.returns-then-is_process
returns-then-is_process c =
    let p = sym c.is_process.ensures ∙ c.if-is_process.true in
    let s = c.sums_from.ensures in
    record { is = s.is ∙ sums-here _ _ _ _ _ (c.from-count.ensures ∙ c.field.ensures) p; small = s.small }

pub returns : goal.returns
returns c =
    let p = sym c.is_process.ensures ∙ c.if-is_process.false in
    record { is = sym (sums_none _ _ _ _ p); small = omega arith }
