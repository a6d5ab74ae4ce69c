-- Objects that have the same name, and their places in a hash table.
use Rattle.std.specs.Prelude.{ℕ, ◌+◌, ◌*◌, ◌/◌, ◌%◌, ◌≡◌, ◌≢◌, List}
use Rattle.rules.specs.Limit as Limit
use Rattle.layout.specs.Rows.{master_of, volume_of, serial_of}
use Rattle.check_rows.specs.Buckets.{Keys}

-- objects o and q live and have the same name
pub record SameName (b l : List ℕ) (o q : ℕ) : Type 0 where
  pub here : master_of l o ≢ 0
  pub there : master_of l q ≢ 0
  pub volume : volume_of b o ≡ volume_of b q
  pub serial : serial_of l o ≡ serial_of l q

-- the place in the table of a name. 49471 / 2^16 and 73 / 128 are close to the powers -1 and -2 of the plastic ratio, by
-- which the places of small numbers, in one volume or in several, lie apart
unfoldable pub name_place : ℕ → ℕ → ℕ
name_place volume serial = (serial * 49471 / 512 + volume * 73) % 128

-- what the table is of
abbrev pub name_keys : List ℕ → List ℕ → Keys
name_keys b l = record {
  slots = Limit.objects;
  places = 128;
  Used = λ o. master_of l o ≢ 0;
  place = λ o. name_place (volume_of b o) (serial_of l o);
}
