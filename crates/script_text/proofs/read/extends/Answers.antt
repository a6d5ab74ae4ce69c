-- `extends` tests the digit and what it makes.
use mathlib.Core.Path.{sym, ◌∙◌}
use Rattle.script_text.proofs.Steps.{extends-digit, extends-other}
use Rattle.script_text.proofs.read.extends.Goals as goal

pub returns-then-is_ascii_digit : goal.returns-then-is_ascii_digit
returns-then-is_ascii_digit c =
    extends-digit _ _ c.requires.0 (sym c.is_ascii_digit.ensures.value ∙ c.if-is_ascii_digit.true)

pub returns-else-is_ascii_digit : goal.returns-else-is_ascii_digit
returns-else-is_ascii_digit c =
    c.if-is_ascii_digit.false ∙ extends-other _ _ c.requires.0 (sym c.is_ascii_digit.ensures.value ∙ c.if-is_ascii_digit.false)
