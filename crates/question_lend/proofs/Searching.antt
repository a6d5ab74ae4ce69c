-- The search up the list for the first place that passes a test.
use Prim.Native.Nat.{ℕ, ◌+◌, ◌≤◌, ◌<◌}
use mathlib.Core.Path.{◌≡◌, sym, ◌∙◌, subst}
use mathlib.Core.Bool.{Bool, true, false, false≢true}
use native.Mathlib.Omega.{arith}
use Rattle.rules.specs.Questions.{FirstOf, NoneOf}
use Rattle.rules.proofs.Tests.{by-eq}

-- none before this place passes
pub record Passed (t : ℕ → Bool) (place : ℕ) : Type 0 where
  pub low : 1 ≤ place
  pub none : (j : ℕ) → 1 ≤ j → j < place → t j ≡ true → ⊥

module _ (t : ℕ → Bool) where
  pub passed_none : Passed t 1
  passed_none = record { low = omega arith; none = λ j a b e. omega arith }

  module _ (n place : ℕ) (P : Passed t place) where
    pub passed-more : t place ≡ false → Passed t (place + 1)
    passed-more f = record {
      low = omega arith;
      none = λ j a b e. by-eq j place
          (λ q. false≢true (sym (subst (λ i. t i ≡ false) (sym q) f) ∙ e))
          (λ ne. P.none j a (omega arith) e);
    }

    pub found_here : place ≤ n → t place ≡ true → FirstOf n (λ j. t j ≡ true) place
    found_here h e = record { some = P.low; low = h; holds = e; before = P.none }

    pub found_none : n < place → NoneOf n (λ j. t j ≡ true)
    found_none h j a b e = P.none j a (omega arith) e
