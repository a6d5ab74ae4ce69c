-- How a check of the links works: it goes along a part of the store (a chain, a tree, the chains of all objects), and
-- marks each record that it visits. 01, "each record is in exactly one chain of its kind": a record that is marked
-- already is refused, and in the end every record is marked.
use Rattle.std.specs.Prelude.{ℕ, ◌+◌, ◌≤◌, ◌<◌, ◌≡◌, ◌≢◌, Bool, true, List, get_or, length}

-- P holds at each of the slots 1 to n
abbrev pub AtSlots : ℕ → (ℕ → Type 0) → Type 0
AtSlots n P = (k : ℕ) → 1 ≤ k → k ≤ n → P k

-- ---- marks

-- a mark for each of the records 1 to n: 1 if it was visited, 0 if not
pub record VisitMarks (n : ℕ) (seen : List ℕ) : Type 0 where
  pub size : length seen ≡ n + 1
  pub mark : (k : ℕ) → get_or seen k 0 ≤ 1

-- none is visited yet
pub record Blank (n : ℕ) (seen : List ℕ) : Type 0 where
  pub size : length seen ≡ n + 1
  pub clear : (k : ℕ) → get_or seen k 0 ≡ 0

-- all are
abbrev pub Full : ℕ → List ℕ → Type 0
Full n seen = AtSlots n (λ k. get_or seen k 0 ≢ 0)

-- the visited are just the free records, those where f is 0
pub record FreeAt (f : ℕ → ℕ) (seen : List ℕ) (k : ℕ) : Type 0 where
  pub free : get_or seen k 0 ≢ 0 → f k ≡ 0
  pub live : get_or seen k 0 ≡ 0 → f k ≢ 0

abbrev pub FreeMarked : ℕ → (ℕ → ℕ) → List ℕ → Type 0
FreeMarked n f seen = AtSlots n (FreeAt f seen)

-- ---- parts of the store

-- a part: what it can be (a list of records, a forest), what of that the links say it is, and how often k is in it
pub record Part : Type 1 where
  pub Thing : Type 0
  pub Fits : Thing → Type 0
  pub holds : Thing → ℕ → ℕ

-- no record is visited twice: none that is held is marked, and none is held twice
abbrev pub Once : List ℕ → (ℕ → ℕ) → Type 0
Once seen held = (k : ℕ) → get_or seen k 0 + held k ≤ 1

-- what is held is marked now, and no other mark has changed
abbrev pub Marked : List ℕ → List ℕ → (ℕ → ℕ) → Type 0
Marked seen after held = (k : ℕ) → get_or after k 0 ≡ get_or seen k 0 + held k

-- r says whether the part is there, with no record visited twice; and if so, its records are marked
pub record Marking (P : Part) (seen after : List ℕ) (r : Bool) : Type 0 where
  pub sound : r ≡ true → (x : P.Thing) × P.Fits x × Once seen (P.holds x) × Marked seen after (P.holds x)
  pub complete : (x : P.Thing) → P.Fits x → Once seen (P.holds x) → (r ≡ true) × Marked seen after (P.holds x)

-- ---- what the functions ask for

-- a row of n slots lies in the slice, and there are marks for them
pub record RowFits (n off : ℕ) (l seen : List ℕ) : Type 0 where
  pub room : off + n < length l
  pub marks : VisitMarks n seen

-- two rows do, and none of their records is visited yet
pub record BlankRows (n off row : ℕ) (l seen : List ℕ) : Type 0 where
  pub room : off + n < length l
  pub row_room : row + n < length l
  pub blank : Blank n seen
