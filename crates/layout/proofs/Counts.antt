-- Counting a record: how often k is j, and sums over slots.
use mathlib.Core.Path.{◌≡◌, refl}
use Prim.Native.Nat.{ℕ, zero, suc, ◌≤◌}
use native.Mathlib.Omega.{arith}
use native.Mathlib.Decide.{ℕ_discrete}
use lib.Dec.{eqb}
use borrow.Author.Tests.{eq-eqb, ne_eqb}
use Rattle.rules.specs.Slots.{one, sum_over}

pub one_same : (k : ℕ) → one (eqb k k) ≡ 1
unfolding one
one_same k = rw (eq-eqb k k refl)

pub one-other : (k j : ℕ) → (k ≡ j → ⊥) → one (eqb k j) ≡ 0
unfolding one
one-other k j ne = rw (ne_eqb k j ne)

-- where a sum is not 0, one of its terms is not
pub sum-some : (n : ℕ) (f : ℕ → ℕ) → 1 ≤ sum_over n f → (o : ℕ) × (1 ≤ o) × (o ≤ n) × (1 ≤ f o)
unfolding sum_over
sum-some zero f h = absurd (omega arith)
sum-some (suc n) f h = go (ℕ_discrete (f (suc n)) 0) (sum-some n f)
  where
    go : Dec (f (suc n) ≡ 0) → (1 ≤ sum_over n f → (o : ℕ) × (1 ≤ o) × (o ≤ n) × (1 ≤ f o))
        → (o : ℕ) × (1 ≤ o) × (o ≤ suc n) × (1 ≤ f o)
    go (yes z) r = let t = r (omega arith) in (t.0, t.1, omega (arith, t.2), t.3)
    go (no nz) r = (suc n, omega arith, omega arith, omega arith)
