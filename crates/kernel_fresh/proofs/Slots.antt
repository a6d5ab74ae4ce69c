-- A sum of which one value counts.
use Prim.Native.Nat.{ℕ, zero, suc, ◌≤◌}
use mathlib.Core.Path.{◌≡◌}
use mathlib.Core.Logic.{◌≢◌}
use native.Mathlib.Omega.{arith}
use Rattle.rules.specs.Slots.{sum_over}
use Rattle.rules.proofs.Tests.{by-eq}
use Rattle.rules.proofs.Slots.{sum-zero}

-- a function that is 0 but at i
pub sum-only : (n i : ℕ) (f : ℕ → ℕ) → 1 ≤ i → i ≤ n → ((j : ℕ) → j ≢ i → f j ≡ 0) → sum_over n f ≡ f i
unfolding sum_over
sum-only zero i f a b h = absurd (omega arith)
sum-only (suc n) i f a b h = by-eq (suc n) i
    (λ e. rw (← e) (rw (sum-zero n f (λ j p q. h j (omega arith))) (omega arith)))
    (λ m. rw (h (suc n) m, sum-only n i f a (omega arith) h) (omega arith))
