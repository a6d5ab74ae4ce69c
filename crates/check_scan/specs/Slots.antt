-- The list of the living capabilities, by which the pass over them meets no free slot.
use Rattle.std.specs.Prelude.{ℕ, ◌+◌, ◌≤◌, ◌<◌, ◌≡◌, ◌≢◌, List, get_or, length}
use Rattle.rules.specs.Limit as Limit
use Rattle.layout.specs.Rows.{owner_of}

-- slot i is one of the entries k to n - 1
pub record OneOfEntries (list : List ℕ) (k n i : ℕ) : Type 0 where
  pub place : ℕ
  pub from : k ≤ place
  pub before : place < n
  pub is : get_or list place 0 ≡ i

-- the entries k to n - 1 are the living slots above j and up to p, in falling order
pub record Slots (l list : List ℕ) (k n j p : ℕ) : Type 0 where
  pub size : n ≤ length list
  pub room : n + j ≤ Limit.caps
  pub cover : (i : ℕ) → j < i → i ≤ p → owner_of l i ≢ 0 → OneOfEntries list k n i
  pub falls : (m q : ℕ) → k ≤ m → m < q → q < n → get_or list q 0 < get_or list m 0
  pub low : (m : ℕ) → k ≤ m → m < n → j < get_or list m 0
  pub high : (m : ℕ) → k ≤ m → m < n → get_or list m 0 ≤ p

-- r is n, and one more if slot i lives
pub record NextPlace (l : List ℕ) (i n r : ℕ) : Type 0 where
  pub free : owner_of l i ≡ 0 → r ≡ n
  pub lives : owner_of l i ≢ 0 → r ≡ n + 1
