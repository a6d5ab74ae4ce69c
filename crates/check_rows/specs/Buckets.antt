-- A hash table of slots, by chaining: `heads` has for each place the slot that was entered there last, and `next` for
-- each slot the one that was entered at the same place before it. Slots are entered from the last down, so every link
-- leads up.
use Rattle.std.specs.Prelude.{ℕ, zero, suc, ◌+◌, ◌-◌, ◌≤◌, ◌<◌, ◌≡◌, ◌≢◌, Bool, true, false, List, get_or, length}
use Rattle.layout.specs.Decides.{Decides}
use Rattle.check_rows.specs.Distinct.{NoneAbove}

-- j is 0, the end of a chain, or a slot of 1 to n above slot i
abbrev pub Up : ℕ → ℕ → ℕ → Type 0
Up n i j = j ≢ 0 → (i < j) × (j ≤ n)

-- the links of n slots: each leads up
pub record Links (n : ℕ) (next : List ℕ) : Type 0 where
  pub size : length next ≡ n + 1
  pub ends : get_or next 0 0 ≡ 0
  pub rises : (j : ℕ) → Up n j (get_or next j 0)

-- the slot that is d links after slot j
unfoldable pub links_after : List ℕ → ℕ → ℕ → ℕ
links_after next zero j = j
links_after next (suc d) j = links_after next d (get_or next j 0)

-- slot k stands in the chain from slot j on
pub record InBucket (next : List ℕ) (j k : ℕ) : Type 0 where
  pub links : ℕ
  pub is : links_after next links j ≡ k

-- no slot in the chain from slot j on is the same as slot i
abbrev pub NoneFrom : (ℕ → ℕ → Type 0) → List ℕ → ℕ → ℕ → Type 0
NoneFrom same next i j = (k : ℕ) → 1 ≤ k → InBucket next j k → same i k → ⊥

-- what is entered: the slots in use, each at its place
pub record Keys : Type 1 where
  pub slots : ℕ
  pub places : ℕ
  pub Used : ℕ → Type 0
  pub place : ℕ → ℕ

-- the table of the slots in use above i
pub record Buckets (K : Keys) (heads next : List ℕ) (i : ℕ) : Type 0 where
  pub size : length heads ≡ K.places
  pub links : Links K.slots next
  pub starts : (p : ℕ) → Up K.slots i (get_or heads p 0)
  pub holds : (j : ℕ) → i < j → K.Used j → InBucket next (get_or heads (K.place j) 0) j

-- slot i was compared with those above it, and the table has it too
pub record Entered (K : Keys) (same : ℕ → ℕ → Type 0) (heads next : List ℕ) (i : ℕ) (r : Bool) : Type 0 where
  pub table : Buckets K heads next (i - 1)
  pub answer : Decides (NoneAbove same i) r

-- what a search along a chain asks for: the chain from `head` on has slots above i
pub record Chained (n : ℕ) (next : List ℕ) (i head : ℕ) : Type 0 where
  pub links : Links n next
  pub start : Up n i head

-- r says whether no slot in the chain from `head` on passes a test, of which post says what it answers
pub record Searched (post : ℕ → Bool → Type 0) (next : List ℕ) (head : ℕ) (r : Bool) : Type 0 where
  pub none : r ≡ true → (k : ℕ) → 1 ≤ k → InBucket next head k → post k false
  pub some : r ≡ false → (k : ℕ) × (1 ≤ k) × InBucket next head k × post k true
