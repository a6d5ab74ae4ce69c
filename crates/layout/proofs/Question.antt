-- The two ways that a question goes: the store is not well formed, or the rules answer.
use Prim.Native.Nat.{ℕ}
use mathlib.Core.Path.{◌≡◌}
use mathlib.Core.List.{List}
use Rattle.rules.specs.Code as Code
use Rattle.rules.specs.Store.{State}
use Rattle.layout.specs.View.{view}
use Rattle.layout.specs.WellFormed.{WellFormed}
use Rattle.layout.specs.Question.{AskedOf}

module _ {b l w : List ℕ} {refused : Type 0} {rules : State → Type 0} {code : ℕ} where
  pub asked-unsound : (WellFormed b l w → ⊥) → refused → code ≡ Code.ill_formed → AskedOf b l w refused rules code
  asked-unsound bad e one = record { unsound = λ _. e; asks = λ f. absurd (bad f); sound = λ nz. absurd (nz one) }

  pub asked-formed : WellFormed b l w → rules (view b l w) → AskedOf b l w refused rules code
  asked-formed f e = record { unsound = λ bad. absurd (bad f); asks = λ _. e; sound = λ _. f }
