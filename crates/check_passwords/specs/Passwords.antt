-- Capabilities that have the same object and p1, and their places in a hash table.
use Rattle.std.specs.Prelude.{ℕ, ◌+◌, ◌*◌, ◌/◌, ◌%◌, ◌≡◌, ◌≢◌, List}
use Rattle.rules.specs.Limit as Limit
use Rattle.layout.specs.Rows.{owner_of, p1_of}
use Rattle.check_rows.specs.Buckets.{Keys}

-- capabilities i and j live, and have the same object and the same p1
pub record SamePassword (l w : List ℕ) (i j : ℕ) : Type 0 where
  pub here : owner_of l i ≢ 0
  pub there : owner_of l j ≢ 0
  pub owner : owner_of l i ≡ owner_of l j
  pub p1 : p1_of w i ≡ p1_of w j

-- the place in the table of an object and a p1. 3242174889 / 2^32 and 583 / 1024 are close to the powers -1 and -2 of the
-- plastic ratio, by which the places of small numbers, in one or in several objects, lie apart
unfoldable pub bucket : ℕ → ℕ → ℕ
bucket owner p1 = (p1 * 3242174889 / 4194304 + owner * 583) % 1024

-- what the table is of
abbrev pub passwords : List ℕ → List ℕ → Keys
passwords l w = record {
  slots = Limit.caps;
  places = 1024;
  Used = λ i. owner_of l i ≢ 0;
  place = λ i. bucket (owner_of l i) (p1_of w i);
}
