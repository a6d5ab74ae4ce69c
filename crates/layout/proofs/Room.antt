-- The room of 512 blocks follows from the shape: each block is in one chain, so the chains have at most 512 in all, and
-- a check of a store need not add up the sizes.
use Prim.Native.Nat.{ℕ, zero, suc, ◌≤◌}
use mathlib.Core.Path.{◌≡◌, refl, sym, ap, ◌∙◌}
use mathlib.Core.List.{List, [], ◌∷◌}
use native.Mathlib.Omega.{arith}
use native.Mathlib.Decide.{ℕ_discrete}
use lib.Dec.{eqb}
use lib.ListN.{length}
use Rattle.rules.specs.Slots.{one, sum_over}
use Rattle.rules.specs.Store.{no_object, blocks}
use Rattle.layout.specs.Rows.{master_of, first_block_of, next_block_of}
use Rattle.layout.specs.View.{view}
use Rattle.layout.specs.Shape.{Chain, times, Blocks}
use Rattle.rules.proofs.Slots.{sum_same, sum-zero, sum-add, sum-swap}
use Rattle.layout.proofs.Counts.{one_same, one-other}
use Rattle.layout.proofs.Shown.{object-here, object-none}

-- ---- sums

pub sum_zeros : (n : ℕ) → sum_over n (λ i. 0) ≡ 0
sum_zeros n = sum-zero n (λ i. 0) (λ i _ _. refl)

pub sum_ones : (n : ℕ) (f : ℕ → ℕ) → ((i : ℕ) → 1 ≤ i → i ≤ n → f i ≤ 1) → sum_over n f ≤ n
unfolding sum_over
sum_ones zero f h = omega arith
sum_ones (suc n) f h =
    omega (arith, h (suc n) (omega arith) (omega arith), sum_ones n f (λ i p q. h i p (omega arith)))

-- j is one of 1 to n, once
pub sum-once : (n j : ℕ) → 1 ≤ j → j ≤ n → sum_over n (λ k. one (eqb k j)) ≡ 1
unfolding sum_over
sum-once zero j p q = absurd (omega arith)
sum-once (suc n) j p q = go (ℕ_discrete (suc n) j) (sum-once n j p)
  where
    go : Dec (suc n ≡ j) → (j ≤ n → sum_over n (λ k. one (eqb k j)) ≡ 1) → sum_over (suc n) (λ k. one (eqb k j)) ≡ 1
    go (yes e) r = omega (
      arith,
      ap (λ i. one (eqb (suc n) i)) e,
      one_same (suc n),
      sum-zero n (λ k. one (eqb k j)) (λ k a b. one-other k j (omega arith)),
    )
    go (no ne) r = omega (arith, one-other (suc n) j ne, r (omega arith))

-- ---- chains

-- a chain is as long as all its records count
pub chain_length : (n : ℕ) (next : ℕ → ℕ) (head : ℕ) (xs : List ℕ) → Chain n next head xs
    → sum_over n (λ k. times k xs) ≡ length xs
unfolding Chain times
chain_length n next head [] c = sum_zeros n
chain_length n next head (j ∷ xs) c =
    omega (
      arith,
      sum-add n (λ k. one (eqb k j)) (λ k. times k xs),
      sum-once n j c.1 c.2,
      chain_length n next (next j) xs c.3,
    )

module _ (b l w : List ℕ) (s : Blocks l) where
  -- what an object's size needs is the length of its chain
  need : (o : ℕ) → 1 ≤ o → o ≤ 64 → blocks ((view b l w).object o).size ≡ sum_over 512 (λ k. times k (s.chain o))
  unfolding no_object blocks times
  need o p q = go (ℕ_discrete (master_of l o) 0)
    where
      go : Dec (master_of l o ≡ 0) → blocks ((view b l w).object o).size ≡ sum_over 512 (λ k. times k (s.chain o))
      go (yes z) = rw (object-none b l w o z, (s.chains o p q).dead z) (sym (sum_zeros 512))
      go (no alive) =
          let c = (s.chains o p q).live alive in
          rw (object-here b l w o alive) (sym (chain_length 512 (next_block_of l) (first_block_of l o) (s.chain o) c.0
          ∙ c.1))

  pub all : sum_over 64 (λ o. blocks ((view b l w).object o).size)
      ≡ sum_over 512 (λ k. sum_over 64 (λ o. times k (s.chain o)))
  all = sum_same 64 (λ o. blocks ((view b l w).object o).size) (λ o. sum_over 512 (λ k. times k (s.chain o))) need
      ∙ sum-swap 64 512 (λ o k. times k (s.chain o))

  pub room_fits : sum_over 64 (λ o. blocks ((view b l w).object o).size) ≤ 512
  room_fits = rw all (sum_ones 512 (λ k. sum_over 64 (λ o. times k (s.chain o))) (λ k p q. omega (arith, s.once k p q)))
