-- The lengths of the slices that a function takes, and a slot of a row.
use Rattle.std.specs.Prelude.{◌≡◌, List, ℕ, ◌≤◌, length}
use Rattle.layout.specs.Layout as Layout

pub record BytesLinks (b l : List ℕ) : Type 0 where
  pub bytes : length b ≡ Layout.BYTES
  pub links : length l ≡ Layout.LINKS

pub record BytesWords (b w : List ℕ) : Type 0 where
  pub bytes : length b ≡ Layout.BYTES
  pub words : length w ≡ Layout.WORDS

pub record LinksWords (l w : List ℕ) : Type 0 where
  pub links : length l ≡ Layout.LINKS
  pub words : length w ≡ Layout.WORDS

-- i is one of the slots 1 to n
pub record Slot (n i : ℕ) : Type 0 where
  pub low : 1 ≤ i
  pub high : i ≤ n
