-- A free question asked of any slices, which are only read: 1 where the store is not well formed, else what the rules say of
-- the store that they mean.
use Rattle.std.specs.Prelude.{ℕ, ◌≡◌, ◌≢◌, List}
use Rattle.rules.specs.Code as Code
use Rattle.rules.specs.Store.{State}
use Rattle.layout.specs.View.{view}
use Rattle.layout.specs.WellFormed.{WellFormed}

-- an answer with this code; `refused` says that it is 1, `rules` that it is the rules'
pub record AskedOf (b l w : List ℕ) (refused : Type 0) (rules : State → Type 0) (code : ℕ) : Type 0 where
  -- "1 the store is not well formed"
  pub unsound : (WellFormed b l w → ⊥) → refused
  pub asks : WellFormed b l w → rules (view b l w)
  -- any other answer says that it is
  pub sound : code ≢ Code.ill_formed → WellFormed b l w

-- r is answered where the rules' answer is a function of the store; `refused` gives a refusal's answer
abbrev pub Asked : {A : Type 0} → List ℕ → List ℕ → List ℕ → (ℕ → A) → (State → A) → ℕ → A → Type 0
Asked b l w refused rules code r = AskedOf b l w (r ≡ refused Code.ill_formed) (λ s. r ≡ rules s) code
