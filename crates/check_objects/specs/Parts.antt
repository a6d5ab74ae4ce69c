-- What is asked of one object, and of one part of it.
use Rattle.std.specs.Prelude.{ℕ, ◌+◌, ◌*◌, ◌≤◌, ◌<◌, ◌≢◌, List}
use Rattle.rules.specs.Limit as Limit
use Rattle.layout.specs.Rows.{master_of, count_of, length_of}
use Rattle.layout.specs.Fields.{ObjectFits, ObjectsFit, NamesUnique}

-- a slot is free or fits
abbrev pub ObjectMeets : List ℕ → List ℕ → List ℕ → ℕ → Type 0
ObjectMeets b l w o = master_of l o ≢ 0 → ObjectFits b l w o

-- each message of object o has 16 bytes at the most
abbrev pub LengthsFit : List ℕ → ℕ → Type 0
LengthsFit b o = (m : ℕ) → m < count_of b o → length_of b (o * Limit.box + m) ≤ Limit.message

-- what is asked of the objects alone
pub record AllObjects (b l w : List ℕ) : Type 0 where
  pub fit : ObjectsFit b l w
  pub names : NamesUnique b l
