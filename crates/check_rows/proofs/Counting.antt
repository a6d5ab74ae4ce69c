-- A loop that counts down passes every slot above its counter.
use Prim.Native.Nat.{ℕ, ◌-◌, ◌≤◌, ◌<◌}
use mathlib.Core.Path.{◌≡◌}
use mathlib.Core.Logic.{◌≢◌}
use mathlib.Core.List.{List}
use native.Mathlib.Decide.{ℕ_discrete}
use native.Mathlib.Omega.{arith}
use Rattle.layout.specs.Rows.{field}
use Rattle.layout.proofs.Cells.{at_zero, past-slots}

-- P holds of each slot above k
abbrev pub Above : (ℕ → Type 0) → ℕ → Type 0
Above P k = (j : ℕ) → k < j → P j

module _ (P : ℕ → Type 0) (k : ℕ) where
  -- what holds above k and at k holds above k - 1
  pub above_more : P k → Above P k → Above P (k - 1)
  above_more here above j h = go (ℕ_discrete j k)
    where
      go : Dec (j ≡ k) → P j
      go (yes e) = rw e here
      go (no ne) = above j (omega arith)

  -- what holds above 0 and at 0 holds of all
  pub above-all : k ≤ 0 → P 0 → Above P k → (j : ℕ) → P j
  above-all z none above j = go (ℕ_discrete j 0)
    where
      go : Dec (j ≡ 0) → P j
      go (yes e) = rw e none
      go (no ne) = above j (omega arith)

-- what is asked only of slots in use, those whose field of 1 to n is not 0, is asked of none above n and not of slot 0
module _ (n off : ℕ) (l : List ℕ) (P : ℕ → Type 0) where
  pub used-past : Above (λ i. field n off l i ≢ 0 → P i) n
  used-past i h used = absurd (used (past-slots n off l i h))

  pub all-used : (k : ℕ) → k ≤ 0 → Above (λ i. field n off l i ≢ 0 → P i) k → (i : ℕ) → field n off l i ≢ 0 → P i
  all-used k z = above-all _ k z (λ used. absurd (used (at_zero n off l 0 (omega arith))))
