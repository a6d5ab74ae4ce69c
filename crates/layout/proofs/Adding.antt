-- A loop that adds up over slots, from the last down: what it has and what is left make the whole sum.
use Prim.Native.Nat.{ℕ, zero, suc, ◌+◌, ◌*◌, ◌-◌, ◌≤◌}
use mathlib.Core.Path.{◌≡◌, refl, ap}
use native.Mathlib.Nat.{mul-suc}
use native.Mathlib.Omega.{arith}
use Rattle.rules.specs.Slots.{sum_over}
use Rattle.layout.specs.Sums.{Amount}

-- total is the sum of f over the slots above k of 1 to n, each at most `most`
pub record Added (f : ℕ → ℕ) (most n k total : ℕ) : Type 0 where
  pub high : k ≤ n
  pub whole : total + sum_over k f ≡ sum_over n f
  pub small : total + most * k ≤ most * n

sum-last : (f : ℕ → ℕ) (k : ℕ) → 1 ≤ k → sum_over k f ≡ f k + sum_over (k - 1) f
unfolding sum_over
sum-last f zero h = absurd (omega arith)
sum-last f (suc k) h = let e : suc k - 1 ≡ k = omega arith in rw (e, sum_over)

times-last : (most k : ℕ) → 1 ≤ k → most * k ≡ most * (k - 1) + most
times-last most zero h = absurd (omega arith)
times-last most (suc k) h = let e : suc k - 1 ≡ k = omega arith in rw e (mul-suc most k)

sum-none : (f : ℕ → ℕ) → sum_over 0 f ≡ 0
unfolding sum_over
sum-none f = refl

module _ (f : ℕ → ℕ) (most n : ℕ) where
  pub added_none : Added f most n n 0
  added_none = record { high = omega arith; whole = omega arith; small = omega arith }

  pub added_more : (k total x : ℕ) → 1 ≤ k → x ≡ f k → x ≤ most → Added f most n k total
      → Added f most n (k - 1) (total + x)
  added_more k total x low is least a = record {
    high = omega arith;
    whole = omega (arith, sum-last f k low);
    small = omega (arith, times-last most k low);
  }

  pub added-all : (k total : ℕ) → k ≤ 0 → Added f most n k total → Amount (most * n) (sum_over n f) total
  added-all k total z a =
      let e : k ≡ 0 = omega arith in
      record { is = omega (arith, ap (λ i. sum_over i f) e, sum-none f); small = omega arith }
