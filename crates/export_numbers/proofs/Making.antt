-- The two ways that each function for C goes: it is made, or its slices do not fit.
use Prim.Native.Nat.{ℕ}
use mathlib.Core.Path.{◌≡◌, sym, ap, ◌∙◌}
use mathlib.Core.List.{List}
use lib.ListN.{get_or}
use Rattle.export_numbers.specs.Numbers.{Fitting}
use Rattle.export_numbers.specs.Crossing.{Crosses, Answered}

module _ {asks tells : ℕ} {request reply : List ℕ} {Made Kept : Type 0} where
  pub kept_by : (Fitting asks tells request reply → ⊥) → Kept → Crosses asks tells request reply Made Kept
  kept_by bad k = record { made = λ f. absurd (bad f); kept = λ _. k }

  pub made_by : Fitting asks tells request reply → Made → Crosses asks tells request reply Made Kept
  made_by f m = record { made = λ _. m; kept = λ bad. absurd (bad f) }

module _ {A : Type 0} {numbers_of : A → List ℕ} {Promised : A → Type 0} {code : ℕ} {reply' : List ℕ} where
  pub answered-by : (a : A) → Promised a → reply' ≡ numbers_of a → code ≡ get_or (numbers_of a) 0 0
      → Answered numbers_of Promised code reply'
  answered-by a p n c = record {
    answer = a;
    promised = p;
    numbers = n;
    code_is = c ∙ sym (ap (λ l. get_or l 0 0) n);
  }
