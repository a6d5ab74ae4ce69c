-- `number_at` wants a digit first, and `zero_on` or `digits_on` goes on.
use mathlib.Core.Path.{sym, ◌∙◌}
use native.Mathlib.Omega.{arith}
use lib.ListN.{get_or}
use Rattle.script_text.proofs.Scanning.{Digit, digit}
use Rattle.script_text.proofs.Steps.{number-zero, number-digit, number-other, number_past}
use Rattle.script_text.proofs.read.number_at.Goals as goal
use Rattle.script_text.proofs.read.number_at.Goals.{Then-is_ascii_digit}

pub returns-then-b-eq48 : goal.returns-then-b-eq48
returns-then-b-eq48 c = number-zero _ _ _ c.if-at-line.true c.if-b-eq48.true c.zero_on.ensures

-- the digit that was tested
tested : (c : Then-is_ascii_digit) → Digit (get_or c.args.line.now c.args.at 0)
tested c = digit _ (sym c.is_ascii_digit.ensures.value ∙ c.if-is_ascii_digit.true)

pub overflow_sub-b : goal.overflow_sub-b
overflow_sub-b c = (tested c).low

pub overflow_cast-b : goal.overflow_cast-b
overflow_cast-b c = omega (arith, (tested c).high)

pub digits_on-requires : goal.digits_on-requires
digits_on-requires c =
    record {
      place = omega arith;
      first = (λ z. c.if-b-eq48.false (omega (arith, z, (tested c).low)), omega (arith, (tested c).high));
    }

pub returns-then-is_ascii_digit : goal.returns-then-is_ascii_digit
returns-then-is_ascii_digit c =
    number-digit _ _ _ c.if-at-line.true
    (sym c.is_ascii_digit.ensures.value ∙ c.if-is_ascii_digit.true) c.digits_on.ensures

pub returns-else-is_ascii_digit : goal.returns-else-is_ascii_digit
returns-else-is_ascii_digit c = number-other _ _ c.if-at-line.true (sym c.is_ascii_digit.ensures.value ∙ c.if-is_ascii_digit.false)

pub returns-else-at-line : goal.returns-else-at-line
returns-else-at-line c = number_past _ _ c.if-at-line.false
