-- The digits of a number are those that std's `{}` writes.
use Prim.Native.Nat.{ℕ, ◌+◌, ◌%◌, ◌^◌, ◌<◌}
use mathlib.Core.Path.{◌≡◌, ap, ◌∙◌}
use mathlib.Core.List.{List, [], ◌∷◌, ◌++◌}
use Rattle.std.specs.Fmt.{decimal}
use Rattle.std.proofs.lemmas.Fmt.{decimal_by_steps}
use Rattle.script_text.specs.Numeral.{numeral}
use Rattle.script_text.proofs.Numerals.{numeral-digit, numeral-tenth}

pub numeral-decimal : (n : ℕ) → n < 2 ^ 64 → numeral n ≡ decimal n
numeral-decimal n h =
    decimal_by_steps (λ n ds. numeral n ≡ ds) (λ n h. numeral-digit n h)
    (λ n ds h e. numeral-tenth n h ∙ ap (λ (l : List ℕ). l ++ ((48 + n % 10) ∷ [])) e) n h
