-- How many objects and blocks are free: with those that live they are all, so the head of the chain of free objects is
-- 0 exactly where all live, and the rules' free blocks are the length of the chain of free blocks. FreeCaps.antt has
-- the same of capabilities.
use Prim.Native.Nat.{ℕ, zero, suc, ◌+◌, ◌≤◌}
use mathlib.Core.Path.{◌≡◌, refl, sym, ap, ◌∙◌}
use mathlib.Core.Logic.{◌≢◌}
use mathlib.Core.Bool.{Bool}
use mathlib.Core.List.{List, [], ◌∷◌}
use native.Mathlib.Omega.{arith}
use native.Mathlib.Decide.{ℕ_discrete}
use lib.Dec.{eqb, leb}
use lib.ListN.{length, get_or}
use borrow.Author.Tests.{eq-eqb, ne_eqb, le-leb, lt-leb}
use Rattle.rules.specs.Slots.{one, sum_over, count_over}
use Rattle.rules.specs.Store.{objects_live, free_blocks, blocks}
use Rattle.rules.specs.Demand.{FreeObject}
use Rattle.rules.proofs.Slots.{sum-add}
use Rattle.layout.specs.Layout as Layout
use Rattle.layout.specs.Rows.{master_of, next_object_of, next_block_of}
use Rattle.layout.specs.View.{is_set, view}
use Rattle.layout.specs.Shape.{Chain, times, Objects, Blocks}
use Rattle.layout.proofs.Counts.{one_same}
use Rattle.layout.proofs.Shown.{set-yes, set-no, live-is}
use Rattle.layout.proofs.Linking.{chain_head}
use Rattle.layout.proofs.Room.{chain_length, all}

-- ---- sums and chains

sum-all : (n : ℕ) (f : ℕ → ℕ) → ((i : ℕ) → 1 ≤ i → i ≤ n → f i ≡ 1) → sum_over n f ≡ n
unfolding sum_over
sum-all zero f h = refl
sum-all (suc n) f h =
    omega (arith, h (suc n) (omega arith) (omega arith), sum-all n f (λ i p q. h i p (omega arith)))

-- slots that pass a test, and the records of a chain that holds the others
counted : (n : ℕ) (test : ℕ → Bool) (next : ℕ → ℕ) (head : ℕ) (xs : List ℕ) → Chain n next head xs
    → ((i : ℕ) → 1 ≤ i → i ≤ n → one (test i) + times i xs ≡ 1) → count_over n test + length xs ≡ n
unfolding count_over
counted n test next head xs c h =
    omega (
      arith,
      sum-add n (λ i. one (test i)) (λ i. times i xs),
      chain_length n next head xs c,
      sum-all n (λ i. one (test i) + times i xs) h,
    )

-- a chain from 0 has no record, and one from elsewhere has one
pub chain-none : (n : ℕ) (next : ℕ → ℕ) (head : ℕ) (xs : List ℕ) → Chain n next head xs → head ≡ 0 → length xs ≡ 0
unfolding Chain
chain-none n next head [] c z = refl
chain-none n next head (j ∷ xs) c z = absurd (omega (arith, c.0, c.1))

pub chain-some : (n : ℕ) (next : ℕ → ℕ) (head : ℕ) (xs : List ℕ) → Chain n next head xs → head ≢ 0 → 1 ≤ length xs
unfolding Chain
chain-some n next head [] c h = absurd (h c)
chain-some n next head (j ∷ xs) c h = omega arith

-- so the test of the head is that of the count
full : (n : ℕ) (next : ℕ → ℕ) (head : ℕ) (xs : List ℕ) (m : ℕ) → Chain n next head xs → m + length xs ≡ n
    → leb n m ≡ eqb head 0
full n next head xs m c e = go (ℕ_discrete head 0)
  where
    go : Dec (head ≡ 0) → leb n m ≡ eqb head 0
    go (yes z) = le-leb n m (omega (arith, chain-none n next head xs c z)) ∙ sym (eq-eqb head 0 z)
    go (no nz) = lt-leb n m (omega (arith, chain-some n next head xs c nz)) ∙ sym (ne_eqb head 0 nz)

set-one : (x : ℕ) → x ≢ 0 → one (is_set x) ≡ 1
unfolding one
set-one x h = ap one (set-yes x h)

set-none : (x : ℕ) → x ≡ 0 → one (is_set x) ≡ 0
unfolding one
set-none x z = ap one (set-no x z)

-- ---- objects

module _ (b l w : List ℕ) (s : Objects l) where
  object-once : (o : ℕ) → 1 ≤ o → o ≤ 64 → one ((view b l w).object o).live + times o s.free ≡ 1
  object-once o p q = rw (live-is b l w o) (go (ℕ_discrete (times o s.live) 0))
    where
      go : Dec (times o s.live ≡ 0) → one (is_set (master_of l o)) + times o s.free ≡ 1
      go (yes z) =
          let t : times o s.free ≡ 1 = omega (arith, s.once o p q) in
          omega (arith, set-none (master_of l o) (s.dead o (omega arith)))
      go (no nz) = omega (arith, set-one (master_of l o) (s.alive o (omega arith)), s.once o p q)

  pub objects-count : objects_live (view b l w) + length s.free ≡ 64
  unfolding objects_live
  objects-count = counted 64 (λ o. ((view b l w).object o).live) (next_object_of l) (get_or l Layout.FREE_OBJECTS 0)
      s.free s.free-chain object-once

  -- 64 objects live
  pub objects-full : leb 64 (objects_live (view b l w)) ≡ eqb (get_or l Layout.FREE_OBJECTS 0) 0
  objects-full = full 64 (next_object_of l) (get_or l Layout.FREE_OBJECTS 0) s.free (objects_live (view b l w))
      s.free-chain objects-count

  -- the first free record is one that an object may take
  pub object-first : get_or l Layout.FREE_OBJECTS 0 ≢ 0 → master_of l (get_or l Layout.FREE_OBJECTS 0) ≡ 0
  unfolding times
  object-first h =
      let t = chain_head 64 (next_object_of l) (get_or l Layout.FREE_OBJECTS 0) s.free s.free-chain h in
      s.dead (get_or l Layout.FREE_OBJECTS 0) (rw t.1 (omega (arith, one_same (get_or l Layout.FREE_OBJECTS 0))))

  pub object-open : get_or l Layout.FREE_OBJECTS 0 ≢ 0 → FreeObject (view b l w) (get_or l Layout.FREE_OBJECTS 0)
  unfolding FreeObject
  object-open h =
      let t = chain_head 64 (next_object_of l) (get_or l Layout.FREE_OBJECTS 0) s.free s.free-chain h in
      (t.2, t.3, live-is b l w (get_or l Layout.FREE_OBJECTS 0) ∙ set-no _ (object-first h))

-- ---- blocks

module _ (b l w : List ℕ) (s : Blocks l) where
  pub blocks-count : sum_over 64 (λ o. blocks ((view b l w).object o).size) + length s.free ≡ 512
  blocks-count =
      omega (
        arith,
        all b l w s,
        sum-add 512 (λ k. sum_over 64 (λ o. times k (s.chain o))) (λ k. times k s.free),
        chain_length 512 (next_block_of l) (get_or l Layout.FREE_BLOCKS 0) s.free s.free-chain,
        sum-all 512 (λ k. sum_over 64 (λ o. times k (s.chain o)) + times k s.free) s.once,
      )

  -- the free blocks are those of their chain
  pub blocks-free : free_blocks (view b l w) ≡ length s.free
  unfolding free_blocks
  blocks-free = omega (arith, blocks-count)
