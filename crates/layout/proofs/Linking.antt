-- Chains and trees where links change: what a chain or a tree says of the records that stand in it, that it holds as it
-- did where their links are as they were, and sums in which one term changes.
use Prim.Native.Nat.{ℕ, ◌+◌, ◌≤◌}
use mathlib.Core.Path.{◌≡◌, refl, ap, ◌∙◌}
use mathlib.Core.Logic.{◌≢◌}
use mathlib.Core.List.{List, [], ◌∷◌, ◌++◌}
use native.Mathlib.Omega.{arith}
use native.Mathlib.Decide.{ℕ_discrete}
use Rattle.rules.specs.Slots.{sum_over, at}
use Rattle.rules.proofs.Slots.{at_here, at-else, sum-but}
use Rattle.layout.specs.Shape.{Chain, times, Forest, nil, node, count, Sound}
use Rattle.layout.proofs.Counts.{one_same, one-other}

-- ---- sums

-- two terms are no more than the sum
pub sum-two : (n : ℕ) (f : ℕ → ℕ) (i o : ℕ) → 1 ≤ i → i ≤ n → 1 ≤ o → o ≤ n → i ≢ o → f i + f o ≤ sum_over n f
sum-two n f i o a b c d ne =
    let x = sum-but n f (at f o 0) o c d (λ k h. at-else f o 0 k h) in
    let y = sum-but n (at f o 0) (at (at f o 0) i 0) i a b (λ k h. at-else (at f o 0) i 0 k h) in
    omega (arith, x, y, at_here f o 0, at-else f o 0 i ne, at_here (at f o 0) i 0)

-- and one is not
pub sum_one : (n : ℕ) (f : ℕ → ℕ) (o : ℕ) → 1 ≤ o → o ≤ n → f o ≤ sum_over n f
sum_one n f o a b =
    let x = sum-but n f (at f o 0) o a b (λ k h. at-else f o 0 k h) in
    omega (arith, x, at_here f o 0)

-- ---- chains

pub times-append : (k : ℕ) (xs ys : List ℕ) → times k (xs ++ ys) ≡ times k xs + times k ys
unfolding times
times-append k [] ys = omega arith
times-append k (j ∷ xs) ys = omega (arith, times-append k xs ys)

-- a record that stands in a chain is one of 1 to n
pub chain-low : (n : ℕ) (next : ℕ → ℕ) (head : ℕ) (xs : List ℕ) (k : ℕ) → Chain n next head xs → 1 ≤ times k xs → 1 ≤ k
unfolding Chain times
chain-low n next head [] k c h = absurd (omega arith)
chain-low n next head (j ∷ xs) k c h = go (ℕ_discrete k j) (chain-low n next (next j) xs k c.3)
  where
    go : Dec (k ≡ j) → (1 ≤ times k xs → 1 ≤ k) → 1 ≤ k
    go (yes e) r = omega (arith, c.1)
    go (no ne) r = r (omega (arith, one-other k j ne))

pub chain-high : (n : ℕ) (next : ℕ → ℕ) (head : ℕ) (xs : List ℕ) (k : ℕ) → Chain n next head xs → 1 ≤ times k xs → k ≤ n
unfolding Chain times
chain-high n next head [] k c h = absurd (omega arith)
chain-high n next head (j ∷ xs) k c h = go (ℕ_discrete k j) (chain-high n next (next j) xs k c.3)
  where
    go : Dec (k ≡ j) → (1 ≤ times k xs → k ≤ n) → k ≤ n
    go (yes e) r = omega (arith, c.2)
    go (no ne) r = r (omega (arith, one-other k j ne))

-- the links of its records as they were
pub chain-frame : (n : ℕ) (next next' : ℕ → ℕ) (head : ℕ) (xs : List ℕ) → Chain n next head xs
    → ((k : ℕ) → 1 ≤ times k xs → next' k ≡ next k) → Chain n next' head xs
unfolding Chain times
chain-frame n next next' head [] c h = c
chain-frame n next next' head (j ∷ xs) c h = (
  c.0,
  c.1,
  c.2,
  rw (h j (omega (arith, one_same j))) (chain-frame n next next' (next j) xs c.3 (λ k p. h k (omega arith))),
)

-- a link changed that none of its records has
pub chain-at : (n : ℕ) (next : ℕ → ℕ) (head : ℕ) (xs : List ℕ) (i v : ℕ) → Chain n next head xs → times i xs ≡ 0
    → Chain n (at next i v) head xs
chain-at n next head xs i v c z = chain-frame n next (at next i v) head xs c
    (λ k p. at-else next i v k (λ e. omega (arith, ap (λ x. times x xs) e)))

-- the head of a chain stands in it
pub chain_head : (n : ℕ) (next : ℕ → ℕ) (head : ℕ) (xs : List ℕ) → Chain n next head xs → head ≢ 0
    → (rest : List ℕ) × (xs ≡ head ∷ rest) × (1 ≤ head) × (head ≤ n) × Chain n next (next head) rest
unfolding Chain
chain_head n next head [] c h = absurd (h c)
chain_head n next head (j ∷ xs) c h = rw c.0 (xs, refl, c.1, c.2, c.3)

-- ---- trees

-- a record that stands in a forest is none that does not
pub apart_in : (k n : ℕ) (F : Forest) → 1 ≤ count k F → count n F ≡ 0 → k ≢ n
apart_in k n F c z e = omega (arith, c, z, ap (λ i. count i F) e)

-- a record that stands in a forest is one of 1 to 512, of its object
pub sound-low : (owner above first next back : ℕ → ℕ) (o p q h : ℕ) (F : Forest) (k : ℕ)
    → Sound owner above first next back o p q h F → 1 ≤ count k F → 1 ≤ k
unfolding Sound count
sound-low owner above first next back o p q h nil k s c = absurd (omega arith)
sound-low owner above first next back o p q h (node j K R) k s c =
    go (ℕ_discrete k j) (ℕ_discrete (count k K) 0)
    (sound-low owner above first next back o j 0 (first j) K k s.2)
    (sound-low owner above first next back o p j (next j) R k s.3)
  where
    go : Dec (k ≡ j) → Dec (count k K ≡ 0) → (1 ≤ count k K → 1 ≤ k) → (1 ≤ count k R → 1 ≤ k) → 1 ≤ k
    go (yes e) d x y = omega (arith, s.1.low)
    go (no ne) (yes z) x y = y (omega (arith, one-other k j ne))
    go (no ne) (no nz) x y = x (omega arith)

-- the links of k are as they were
pub record SameLinks (owner above first next back owner' above' first' next' back' : ℕ → ℕ) (k : ℕ) : Type 0 where
  pub owner-same : owner' k ≡ owner k
  pub above_same : above' k ≡ above k
  pub first-same : first' k ≡ first k
  pub next-same : next' k ≡ next k
  pub back-same : back' k ≡ back k

pub sound-frame : (owner above first next back owner' above' first' next' back' : ℕ → ℕ) (o p q h : ℕ) (F : Forest)
    → Sound owner above first next back o p q h F
    → ((k : ℕ) → 1 ≤ count k F → SameLinks owner above first next back owner' above' first' next' back' k)
    → Sound owner' above' first' next' back' o p q h F
unfolding Sound count
sound-frame owner above first next back owner' above' first' next' back' o p q h nil s f = s
sound-frame owner above first next back owner' above' first' next' back' o p q h (node j K R) s f =
    let here = f j (omega (arith, one_same j)) in (
      s.0,
      record {
        low = s.1.low;
        high = s.1.high;
        owner-is = here.owner-same ∙ s.1.owner-is;
        parent_is = here.above_same ∙ s.1.parent_is;
        prev-is = here.back-same ∙ s.1.prev-is;
      },
      rw here.first-same (sound-frame owner above first next back owner' above' first' next' back' o j 0 (first j) K
          s.2 (λ k c. f k (omega arith))),
      rw here.next-same (sound-frame owner above first next back owner' above' first' next' back' o p j (next j) R
          s.3 (λ k c. f k (omega arith))),
    )
