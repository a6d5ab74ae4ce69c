-- A chain cut after its n-th block: the blocks before the cut, and those after it.
use Prim.Native.Nat.{ℕ, zero, suc, ◌≤◌, ◌<◌}
use mathlib.Core.Path.{◌≡◌, refl, ap}
use mathlib.Core.Logic.{◌≢◌}
use mathlib.Core.List.{List, [], ◌∷◌, ◌++◌}
use native.Mathlib.Omega.{arith}
use native.Mathlib.Decide.{ℕ_discrete}
use lib.ListN.{length}
use Rattle.rules.specs.Slots.{at}
use Rattle.rules.proofs.Slots.{at_here, at-else}
use Rattle.layout.specs.Shape.{Chain, times}
use Rattle.layout.proofs.Counts.{one_same, one-other}
use Rattle.layout.proofs.Linking.{times-append, chain-at}
use Rattle.call_blocks.specs.Walk.{hop}

-- xs, the chain from head on by the links next, is cut after n blocks: by the links next' the blocks before the cut are
-- a chain from first on, and those after it one from rest on
pub record Split (next next' : ℕ → ℕ) (head first rest n : ℕ) (xs : List ℕ) : Type 0 where
  pub front : List ℕ
  pub back : List ℕ
  pub is : xs ≡ front ++ back
  pub size : length front ≡ n
  pub front-chain : Chain 512 next' first front
  pub back-chain : Chain 512 next' rest back
  -- the links of other blocks are as they were
  pub other : (k : ℕ) → times k front ≡ 0 → next' k ≡ next k
  -- the blocks before the cut are those of the first n steps
  pub place : (i : ℕ) → i < n → 1 ≤ times (hop next i head) front
  pub found : (k : ℕ) → 1 ≤ times k front → (i : ℕ) × (i < n) × (k ≡ hop next i head)

pub split-none : (next : ℕ → ℕ) (head : ℕ) (xs : List ℕ) → Chain 512 next head xs → Split next next head 0 head 0 xs
unfolding Chain times
split-none next head xs c = record {
  front = [];
  back = xs;
  is = refl;
  size = refl;
  front-chain = refl;
  back-chain = c;
  other = λ k z. refl;
  place = λ i h. absurd (omega arith);
  found = λ k h. absurd (omega arith);
}

module _ (next : ℕ → ℕ) where
  split_one : (j : ℕ) (xs : List ℕ) → 1 ≤ j → j ≤ 512 → Chain 512 next (next j) xs → times j xs ≡ 0
      → Split next (at next j 0) j j (next j) 1 (j ∷ xs)
  unfolding Chain times hop
  split_one j xs low high c z = record {
    front = j ∷ [];
    back = xs;
    is = refl;
    size = refl;
    front-chain = (refl, low, high, at_here next j 0);
    back-chain = chain-at 512 next (next j) xs j 0 c z;
    other = λ k e. at-else next j 0 k (λ q. omega (arith, e, ap (λ x. times x (j ∷ [])) q, one_same j));
    place = first;
    found = λ k h. (0, omega arith, hit k h (ℕ_discrete k j));
  }
    where
      first : (i : ℕ) → i < 1 → 1 ≤ times (hop next i j) (j ∷ [])
      first zero h = omega (arith, one_same j)
      first (suc i) h = absurd (omega arith)

      hit : (k : ℕ) → 1 ≤ times k (j ∷ []) → Dec (k ≡ j) → k ≡ j
      hit k h (yes e) = e
      hit k h (no ne) = absurd (omega (arith, one-other k j ne))

  -- one block more in front
  module _ (j m : ℕ) (xs : List ℕ) (low : 1 ≤ j) (high : j ≤ 512) (alone : times j xs ≡ 0)
      (S : Split next (at next (hop next m (next j)) 0) (next j) (next j) (next (hop next m (next j))) (suc m) xs)
    where
      abbrev last : ℕ
      last = hop next m (next j)

      apart : j ≢ last
      apart e =
          omega (
            arith,
            S.place m (omega arith),
            ap (λ x. times x S.front) e,
            ap (times j) S.is,
            times-append j S.front S.back,
          )

      places : (i : ℕ) → i < suc (suc m) → 1 ≤ times (hop next i j) (j ∷ S.front)
      unfolding times hop
      places zero h = omega (arith, one_same j)
      places (suc i) h = omega (arith, S.place i (omega arith))

      finds : (k : ℕ) → 1 ≤ times k (j ∷ S.front) → (i : ℕ) × (i < suc (suc m)) × (k ≡ hop next i j)
      unfolding times hop
      finds k h = go (ℕ_discrete k j)
        where
          go : Dec (k ≡ j) → (i : ℕ) × (i < suc (suc m)) × (k ≡ hop next i j)
          go (yes e) = (0, omega arith, e)
          go (no ne) =
              let f = S.found k (omega (arith, one-other k j ne)) in
              (suc f.0, omega (arith, f.1), f.2)

      split-more : Split next (at next last 0) j j (next last) (suc (suc m)) (j ∷ xs)
      unfolding Chain times
      split-more = record {
        front = j ∷ S.front;
        back = S.back;
        is = ap (λ ys. j ∷ ys) S.is;
        size = ap suc S.size;
        front-chain = (refl, low, high, rw (at-else next last 0 j apart) S.front-chain);
        back-chain = S.back-chain;
        other = λ k z. S.other k (omega arith);
        place = places;
        found = finds;
      }

  -- the same from a head that is j
  one_from : (head j : ℕ) (xs : List ℕ) → head ≡ j → 1 ≤ j → j ≤ 512 → Chain 512 next (next j) xs → times j xs ≡ 0
      → Split next (at next (hop next 0 head) 0) head head (next (hop next 0 head)) 1 (j ∷ xs)
  unfolding hop
  one_from head j xs e low high c z = rw e (split_one j xs low high c z)

  more-from : (head j m : ℕ) (xs : List ℕ) → head ≡ j → 1 ≤ j → j ≤ 512 → times j xs ≡ 0
      → Split next (at next (hop next m (next j)) 0) (next j) (next j) (next (hop next m (next j))) (suc m) xs
      → Split next (at next (hop next (suc m) head) 0) head head (next (hop next (suc m) head)) (suc (suc m))
      (j ∷ xs)
  unfolding hop
  more-from head j m xs e low high z S = rw e (split-more j m xs low high z S)

  -- after m steps, where no block is in the chain twice
  pub split-some : (m head : ℕ) (xs : List ℕ) → Chain 512 next head xs → m < length xs
      → ((k : ℕ) → 1 ≤ k → k ≤ 512 → times k xs ≤ 1)
      → Split next (at next (hop next m head) 0) head head (next (hop next m head)) (suc m) xs
  unfolding Chain times
  split-some m head [] c h once = absurd (omega arith)
  split-some zero head (j ∷ xs) c h once =
      one_from head j xs c.0 c.1 c.2 c.3 (omega (arith, once j c.1 c.2, one_same j))
  split-some (suc m) head (j ∷ xs) c h once =
      more-from head j m xs c.0 c.1 c.2 (omega (arith, once j c.1 c.2, one_same j))
      (split-some m (next j) xs c.3 (omega arith) (λ k p q. omega (arith, once k p q)))
