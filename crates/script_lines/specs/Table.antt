-- The table of the code: a row for each field, a column for each call number from 0 to 16.
use Rattle.std.specs.Prelude.{ℕ, List, [], ◌∷◌, map, length}
use Rattle.rules.specs.Rights.{Op, make_obj, read, write, cap_info, derive_cap, delete_cap, rename_obj, withdraw}
use Rattle.rules.specs.Rights.{deposit, suspend, resume, apply_lock, send, receive, wait, revive, unknown}
use Rattle.rules.specs.Fields as Fields
use Rattle.rules.specs.Fields.{Field, fields, place}

-- the calls by their numbers
unfoldable pub calls : List Op
calls = unknown ∷ make_obj ∷ read ∷ write ∷ cap_info ∷ derive_cap ∷ delete_cap ∷ rename_obj ∷ withdraw
    ∷ deposit ∷ suspend ∷ resume ∷ apply_lock ∷ send ∷ receive ∷ wait ∷ revive ∷ []

-- a field's place in the line of each call
unfoldable pub places : Field → List ℕ
places f = map (λ o. place o f) calls

-- how many fields the line of each call has
unfoldable pub lengths : List ℕ
lengths = map (λ o. length (fields o)) calls

-- a proof that computes with the table says `unfolding` and this name
unfoldable pub computes : Unit {0}
unfolding Fields.computes calls places lengths
computes = tt
