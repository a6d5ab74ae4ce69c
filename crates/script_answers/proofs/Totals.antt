-- The four totals, each of which fits, and the line that they make.
use Prim.Native.Nat.{ℕ, ◌≤◌}
use mathlib.Core.Path.{◌≡◌, subst}
use mathlib.Core.List.{List, [], ◌∷◌, ◌++◌}
use native.Mathlib.Omega.{arith}
use lib.ListN.{length}
use Rattle.rules.specs.Store.{State, all_cash, all_masters, all_boxes, money_in}
use Rattle.rules.specs.Script.{totals}
use Rattle.script_text.specs.Numeral.{after}
use Rattle.script_text.specs.Pasted.{Wrote, Put}
use Rattle.script_text.proofs.Pasting.{wrote_then}
use Rattle.script_answers.specs.Ends.{totals_line}

-- no part is more than the whole
pub record Parts (s : State) : Type 0 where
  pub cash : all_cash s ≤ 4294967295
  pub masters : all_masters s ≤ 4294967295
  pub boxes : all_boxes s ≤ 4294967295

pub parts : (s : State) → money_in s ≤ 4294967295 → Parts s
unfolding money_in
parts s h = record { cash = omega arith; masters = omega arith; boxes = omega arith }

totals-are : (s : State) (a b c d : ℕ) → a ≡ all_cash s → b ≡ all_masters s → c ≡ all_boxes s → d ≡ s.house
    → a ∷ b ∷ c ∷ d ∷ [] ≡ totals s
unfolding totals
totals-are s a b c d h₀ h₁ h₂ h₃ = λ i. h₀ i ∷ h₁ i ∷ h₂ i ∷ h₃ i ∷ []

pub totals-put : (s : State) (out one two out' : List ℕ) (at p q r a b c d : ℕ) → a ≡ all_cash s → b ≡ all_masters s
    → c ≡ all_boxes s → d ≡ s.house → at ≤ length out → Wrote out at (84 ∷ []) one p
    → Put 44 one p (after (a ∷ b ∷ c ∷ d ∷ [])) two q → Wrote two q (10 ∷ []) out' r
    → Put 46 out at (totals_line s) out' r
unfolding totals_line
totals-put s out one two out' at p q r a b c d h₀ h₁ h₂ h₃ h t numbers end = record {
  wrote = subst (λ (ns : List ℕ). Wrote out at ((84 ∷ []) ++ after ns ++ (10 ∷ [])) out' r)
      (totals-are s a b c d h₀ h₁ h₂ h₃)
      (wrote_then (wrote_then t numbers.wrote h) end h);
  room = omega (arith, t.end, numbers.room, end.end);
}
