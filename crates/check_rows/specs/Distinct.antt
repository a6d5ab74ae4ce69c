-- Slots that are not the same as another.
use Rattle.std.specs.Prelude.{ℕ, ◌<◌}

-- nothing above slot i is the same
abbrev pub NoneAbove : (ℕ → ℕ → Type 0) → ℕ → Type 0
NoneAbove same i = (j : ℕ) → i < j → same i j → ⊥
