-- A list that stores were made to, at places that differ.
use Prim.Native.Nat.{ℕ, zero, suc, ◌<◌}
use mathlib.Core.Path.{◌≡◌, refl, ◌∙◌}
use mathlib.Core.Logic.{◌≢◌}
use mathlib.Core.List.{List}
use native.Mathlib.Omega.{arith}
use native.Mathlib.Decide.{ℕ_discrete}
use lib.ListN.{get_or, set, length, length-set}
use lib.Seq.{get_or-set_other, get_or-set_same}
use Rattle.call_steps.specs.Copies.{laid}

module _ (place value : ℕ → ℕ) (xs : List ℕ) where
  pub laid-length : (n : ℕ) → length (laid place value n xs) ≡ length xs
  unfolding laid
  laid-length zero = refl
  laid-length (suc n) = length-set (laid place value n xs) (place n) (value n) ∙ laid-length n

  -- a place that no store is to
  pub laid-other : (n j : ℕ) → ((i : ℕ) → i < n → j ≢ place i) → get_or (laid place value n xs) j 0 ≡ get_or xs j 0
  unfolding laid
  laid-other zero j h = refl
  laid-other (suc n) j h =
      get_or-set_other (laid place value n xs) (place n) j (value n) 0 (h n (omega arith))
      ∙ laid-other n j (λ i p. h i (omega arith))

  -- the place of store i
  pub laid-at : (n i : ℕ) → i < n → ((j : ℕ) → i < j → j < n → place i ≢ place j) → place i < length xs
      → get_or (laid place value n xs) (place i) 0 ≡ value i
  unfolding laid
  laid-at zero i p h q = absurd (omega arith)
  laid-at (suc n) i p h q = go (ℕ_discrete i n) (λ r. laid-at n i r (λ j a b. h j a (omega arith)) q)
    where
      go : Dec (i ≡ n) → (i < n → get_or (laid place value n xs) (place i) 0 ≡ value i)
          → get_or (set (laid place value n xs) (place n) (value n)) (place i) 0 ≡ value i
      go (yes e) ih =
          rw e (get_or-set_same (laid place value n xs) (place n) (value n) 0 (rw (laid-length n, ← e) q))
      go (no ne) ih = get_or-set_other (laid place value n xs) (place n) (place i) (value n) 0
          (h n (omega arith) (omega arith)) ∙ ih (omega arith)
