-- The blocks of a chain by their places in it, and steps past its end.
use Prim.Native.Nat.{ℕ, zero, suc, ◌≤◌, ◌<◌}
use mathlib.Core.Path.{◌≡◌, refl, sym, subst, ◌∙◌}
use mathlib.Core.Logic.{◌≢◌}
use mathlib.Core.List.{List, [], ◌∷◌}
use native.Mathlib.Omega.{arith}
use native.Mathlib.Decide.{ℕ_discrete, dec_le}
use lib.Dec.{eqb, ltb}
use lib.ListN.{length}
use borrow.Author.Tests.{eq-eqb, ne_eqb, ltb-true, ltb-false}
use Rattle.rules.proofs.Tests.{by_bool}
use Rattle.layout.specs.Shape.{Chain, times}
use Rattle.layout.proofs.Counts.{one_same}
use Rattle.call_blocks.specs.Walk.{hop}

module _ (next : ℕ → ℕ) where
  -- the last step last
  pub hop-last : (n k : ℕ) → hop next (suc n) k ≡ next (hop next n k)
  unfolding hop
  hop-last zero k = refl
  hop-last (suc n) k = hop-last n (next k)

  -- a block of a chain stands in it
  pub hop-in : (head : ℕ) (xs : List ℕ) → Chain 512 next head xs → (i : ℕ) → i < length xs
      → 1 ≤ times (hop next i head) xs
  unfolding hop Chain times
  hop-in head [] c i p = absurd (omega arith)
  hop-in head (j ∷ xs) c zero p = rw c.0 (omega (arith, one_same j))
  hop-in head (j ∷ xs) c (suc i) p =
      let ih = hop-in (next j) xs c.3 i (omega arith) in
      let P : ℕ → Type 0 = λ h. 1 ≤ times (hop next (suc i) h) (j ∷ xs) in
      subst P (sym c.0) (omega (arith, ih))

  -- and is one of the store's
  pub hop-block : (head : ℕ) (xs : List ℕ) → Chain 512 next head xs → (i : ℕ) → i < length xs
      → (1 ≤ hop next i head) × (hop next i head ≤ 512)
  unfolding hop Chain
  hop-block head [] c i p = absurd (omega arith)
  hop-block head (j ∷ xs) c zero p = rw c.0 (c.1, c.2)
  hop-block head (j ∷ xs) c (suc i) p =
      rw c.0 (hop-block (next j) xs c.3 i (omega arith))

  -- different places of a chain have different blocks
  hop-later : (head : ℕ) (xs : List ℕ) → Chain 512 next head xs → ((k : ℕ) → 1 ≤ k → k ≤ 512 → times k xs ≤ 1)
      → (i j : ℕ) → i < j → j < length xs → hop next i head ≢ hop next j head
  unfolding hop Chain times
  hop-later head [] c once i j p q e = absurd (omega arith)
  hop-later head (x ∷ xs) c once i zero p q e = absurd (omega arith)
  hop-later head (x ∷ xs) c once zero (suc j) p q e =
      let later = hop-in (next x) xs c.3 j (omega arith) in
      let same : hop next j (next x) ≡ x = sym (rw c.0 at e) in
      let again : 1 ≤ times x xs = rw same at later in
      omega (arith, again, once x c.1 c.2, one_same x)
  hop-later head (x ∷ xs) c once (suc i) (suc j) p q e =
      hop-later (next x) xs c.3 (λ k a b. omega (arith, once k a b)) i j (omega arith) (omega arith)
      (rw c.0 at e)

  pub hop-apart : (head : ℕ) (xs : List ℕ) → Chain 512 next head xs → ((k : ℕ) → 1 ≤ k → k ≤ 512 → times k xs ≤ 1)
      → (i j : ℕ) → i < length xs → j < length xs → hop next i head ≡ hop next j head → i ≡ j
  hop-apart head xs c once i j p q e = go (ℕ_discrete i j) (dec_le i j)
    where
      go : Dec (i ≡ j) → Dec (i ≤ j) → i ≡ j
      go (yes r) d = r
      go (no ne) (yes h) = absurd (hop-later head xs c once i j (omega arith) q e)
      go (no ne) (no h) = absurd (hop-later head xs c once j i (omega arith) p (sym e))

  -- ---- steps past the end

  hop-zero : next 0 ≡ 0 → (m : ℕ) → hop next m 0 ≡ 0
  unfolding hop
  hop-zero z zero = refl
  hop-zero z (suc m) = rw z (hop-zero z m)

  pub hop-past : next 0 ≡ 0 → (m head : ℕ) (xs : List ℕ) → Chain 512 next head xs → length xs ≤ m
      → hop next m head ≡ 0
  unfolding Chain hop
  hop-past z m head [] c h = rw c (hop-zero z m)
  hop-past z zero head (j ∷ xs) c h = absurd (omega arith)
  hop-past z (suc m) head (j ∷ xs) c h = rw c.0 (hop-past z m (next j) xs c.3 (omega arith))

  pub past_is : next 0 ≡ 0 → (m head : ℕ) (xs : List ℕ) → Chain 512 next head xs
      → eqb (hop next m head) 0 ≡ ltb (length xs) (suc m)
  past_is z m head xs c = by_bool (ltb (length xs) (suc m))
      (λ e. eq-eqb _ 0 (hop-past z m head xs c (omega (arith, ltb-true (length xs) (suc m) e))) ∙ sym e)
      (λ e.
      let h : m < length xs = omega (arith, ltb-false (length xs) (suc m) e) in
      ne_eqb (hop next m head) 0 (λ q. omega (arith, (hop-block head xs c m h).0)) ∙ sym e)

  -- steps from a chain's head on stay among the blocks
  pub hop-high : next 0 ≡ 0 → (m head : ℕ) (xs : List ℕ) → Chain 512 next head xs → hop next m head ≤ 512
  hop-high z m head xs c = go (dec_le (length xs) m)
    where
      go : Dec (length xs ≤ m) → hop next m head ≤ 512
      go (yes h) = omega (arith, hop-past z m head xs c h)
      go (no h) = (hop-block head xs c m (omega arith)).1
