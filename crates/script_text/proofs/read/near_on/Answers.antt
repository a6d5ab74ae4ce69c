-- `near_on` reads up to two digits, which say a small number; what it returns goes on from there.
use Prim.Native.Nat.{◌+◌, ◌-◌, ◌*◌}
use mathlib.Core.Path.{sym, ◌∙◌}
use native.Mathlib.Omega.{arith}
use lib.ListN.{get_or}
use Rattle.script_text.proofs.Scanning.{Digit, digit}
use Rattle.script_text.proofs.Steps.{Few, near-second, near-third, on-space, on-from}
use Rattle.script_text.proofs.read.near_on.Goals as goal
use Rattle.script_text.proofs.read.near_on.Goals.{Then-is_ascii_digit, Then-is_ascii_digit-2}

-- the digits that were tested
b-digit : (c : Then-is_ascii_digit) → Digit (get_or c.args.line.now c.args.at 0)
b-digit c = digit _ (sym c.is_ascii_digit.ensures.value ∙ c.if-is_ascii_digit.true)

c-digit : (c : Then-is_ascii_digit-2) → Digit (get_or c.args.line.now (c.args.at + 1) 0)
c-digit c = digit _ (sym c.is_ascii_digit-then-is_ascii_digit.ensures.value ∙ c.if-is_ascii_digit-2.true)

-- what they say
second : (c : Then-is_ascii_digit) → Few c.args.line.now c.args.at c.args.first (c.args.first * 10 + (get_or c.args.line.now c.args.at 0 - 48)) (c.args.at + 1) 99
second c = near-second _ _ _ c.requires (sym c.is_ascii_digit.ensures.value ∙ c.if-is_ascii_digit.true)

third : (c : Then-is_ascii_digit-2) → Few c.args.line.now c.args.at c.args.first ((c.args.first * 10 + (get_or c.args.line.now c.args.at 0 - 48)) * 10 + (get_or c.args.line.now (c.args.at + 1) 0 - 48)) (c.args.at + 2) 999
third c = near-third _ _ _ _ c.requires (near-second _ _ _ c.requires (sym c.is_ascii_digit.ensures.value ∙ c.if-is_ascii_digit.true)) (sym c.is_ascii_digit-then-is_ascii_digit.ensures.value ∙ c.if-is_ascii_digit-2.true)

pub overflow_cast-second : goal.overflow_cast-second
overflow_cast-second c = omega (arith, (b-digit c).high)

pub overflow_sub-second : goal.overflow_sub-second
overflow_sub-second c = (b-digit c).low

pub overflow_add-second : goal.overflow_add-second
overflow_add-second c = omega (arith, (second c).few)

pub overflow_mul-third : goal.overflow_mul-third
overflow_mul-third c = omega (arith, (second (goal.at.overflow_mul-third c).Then-is_ascii_digit).few)

pub overflow_cast-third : goal.overflow_cast-third
overflow_cast-third c = omega (arith, (c-digit c).high)

pub overflow_sub-third : goal.overflow_sub-third
overflow_sub-third c = (c-digit c).low

pub overflow_add-third : goal.overflow_add-third
overflow_add-third c = omega (arith, (third c).few)

pub overflow_cast-result : goal.overflow_cast-result
overflow_cast-result c = omega (arith, (third (goal.at.overflow_cast-result c).Then-is_ascii_digit-2).few)

pub returns-then-line-at-eq32 : goal.returns-then-line-at-eq32
returns-then-line-at-eq32 c =
    on-space _ _ _ _ _ (third (goal.at.returns-then-line-at-eq32 c).Then-is_ascii_digit-2).on (omega (arith, c.requires.within)) c.if-line-at-eq32.true

pub digits_on-requires : goal.digits_on-requires
digits_on-requires c =
    record {
      place = (third (goal.at.digits_on-requires c).Then-is_ascii_digit-2).on.within;
      first = ((third (goal.at.digits_on-requires c).Then-is_ascii_digit-2).some, (third (goal.at.digits_on-requires c).Then-is_ascii_digit-2).on.fits);
    }

pub returns-then-is_ascii_digit-2 : goal.returns-then-is_ascii_digit-2
returns-then-is_ascii_digit-2 c =
    on-from _ _ _ _ _ (third (goal.at.returns-then-is_ascii_digit-2 c).Then-is_ascii_digit-2).on _ c.digits_on.ensures

pub no_digit_on-requires : goal.no_digit_on-requires
no_digit_on-requires c =
    record {
      within = omega (arith, c.requires.within);
      other = sym c.is_ascii_digit-then-is_ascii_digit.ensures.value ∙ c.if-is_ascii_digit-2.false;
      some = (second (goal.at.no_digit_on-requires c).Then-is_ascii_digit).some;
      fits = (second (goal.at.no_digit_on-requires c).Then-is_ascii_digit).on.fits;
    }

pub returns-then-is_ascii_digit : goal.returns-then-is_ascii_digit
returns-then-is_ascii_digit c =
    on-from _ _ _ _ _ (second (goal.at.returns-then-is_ascii_digit c).Then-is_ascii_digit).on _ c.no_digit_on.ensures

pub no_digit_on-requires-2 : goal.no_digit_on-requires-2
no_digit_on-requires-2 c =
    record {
      within = omega (arith, c.requires.within);
      other = sym c.is_ascii_digit.ensures.value ∙ c.if-is_ascii_digit.false;
      some = c.requires.some;
      fits = omega (arith, c.requires.digit);
    }
