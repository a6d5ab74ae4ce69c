-- A well-formed store is plain.
use mathlib.Core.List.{List}
use Prim.Native.Nat.{ℕ}
use Rattle.layout.specs.WellFormed.{WellFormed, Plain}

pub plain : {b l w : List ℕ} → WellFormed b l w → Plain b l w
plain f = record { sized = f.sized; cells = f.cells; blocks = f.shape.blocks; valid = f.valid }
