-- Slots are all different where none is the same as one above it.
use Prim.Native.Nat.{ℕ, ◌≤◌, ◌<◌}
use mathlib.Core.Path.{◌≡◌}
use mathlib.Core.Logic.{◌≢◌}
use mathlib.Core.List.{List}
use native.Mathlib.Decide.{dec_lt}
use native.Mathlib.Omega.{arith}
use Rattle.layout.specs.Rows.{field}
use Rattle.check_rows.specs.Distinct.{NoneAbove}
use Rattle.layout.proofs.Cells.{at_zero, past-slots}
use Rattle.check_rows.proofs.Counting.{Above, above-all}

-- slot j is not the same as slot i
abbrev pub Differs : (ℕ → ℕ → Type 0) → ℕ → ℕ → Type 0
Differs same i j = same i j → ⊥

-- no two slots are the same
abbrev pub AllDiffer : (ℕ → ℕ → Type 0) → Type 0
AllDiffer same = (i j : ℕ) → same i j → i ≡ j

-- only slots in use are the same, those with a field of 1 to n that is not 0, and each is the same as the other
pub record Mutual (n off : ℕ) (l : List ℕ) (same : ℕ → ℕ → Type 0) : Type 0 where
  pub used : (i j : ℕ) → same i j → field n off l i ≢ 0
  pub turned : (i j : ℕ) → same i j → same j i

module _ {n off : ℕ} {l : List ℕ} {same : ℕ → ℕ → Type 0} (m : Mutual n off l same) where
  pub differs-past : (i : ℕ) → Above (Differs same i) n
  differs-past i j h s = m.used j i (m.turned i j s) (past-slots n off l j h)

  pub none-past : Above (NoneAbove same) n
  none-past i h j above s = m.used i j s (past-slots n off l i h)

  pub all-differ : (k : ℕ) → k ≤ 0 → Above (NoneAbove same) k → AllDiffer same
  all-differ k z above i j s = go (dec_lt i j) (dec_lt j i)
    where
      none : (i : ℕ) → NoneAbove same i
      none = above-all (NoneAbove same) k z (λ j h s. m.used 0 j s (at_zero n off l 0 (omega arith))) above

      go : Dec (i < j) → Dec (j < i) → i ≡ j
      go (yes h) e = absurd (none i j h s)
      go (no a) (yes h) = absurd (none j i h (m.turned i j s))
      go (no a) (no b) = omega arith

pub none-same : {same : ℕ → ℕ → Type 0} → AllDiffer same → (i : ℕ) → NoneAbove same i
none-same differ i j h s = omega (arith, differ i j s)
