-- The names of objects differ where none is the same as one above it.
use mathlib.Core.Path.{sym}
use Prim.Native.Nat.{ℕ}
use mathlib.Core.List.{List}
use Rattle.layout.specs.Layout as Layout
use Rattle.layout.specs.Fields.{NamesUnique}
use Rattle.check_objects.specs.Names.{SameName}
use Rattle.check_rows.proofs.Unique.{Mutual, AllDiffer}

module _ (b l : List ℕ) where
  pub by_name : Mutual 64 Layout.MASTER l (SameName b l)
  by_name = record {
    used = λ i j s. s.here;
    turned = λ i j s. record { here = s.there; there = s.here; volume = sym s.volume; serial = sym s.serial };
  }

  pub names-unique : AllDiffer (SameName b l) → NamesUnique b l
  names-unique differ o q here there volume serial =
      differ o q (record { here = here; there = there; volume = volume; serial = serial })

  pub names-differ : NamesUnique b l → AllDiffer (SameName b l)
  names-differ unique o q s = unique o q s.here s.there s.volume s.serial
