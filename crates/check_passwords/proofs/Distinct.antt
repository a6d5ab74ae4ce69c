-- The p1 of an object's capabilities differ where none is the same as one above it.
use Prim.Native.Nat.{ℕ}
use mathlib.Core.Path.{sym}
use mathlib.Core.List.{List}
use Rattle.layout.specs.Layout as Layout
use Rattle.layout.specs.Fields.{PasswordsUnique}
use Rattle.check_passwords.specs.Passwords.{SamePassword}
use Rattle.check_rows.proofs.Unique.{Mutual, AllDiffer}

module _ (l w : List ℕ) where
  pub by-password : Mutual 512 Layout.OWNER l (SamePassword l w)
  by-password = record {
    used = λ i j s. s.here;
    turned = λ i j s. record { here = s.there; there = s.here; owner = sym s.owner; p1 = sym s.p1 };
  }

  pub passwords-unique : AllDiffer (SamePassword l w) → PasswordsUnique l w
  passwords-unique differ i j here there owner p1 =
      differ i j (record { here = here; there = there; owner = owner; p1 = p1 })

  pub passwords-differ : PasswordsUnique l w → AllDiffer (SamePassword l w)
  passwords-differ unique i j s = unique i j s.here s.there s.owner s.p1
