-- 01, "A store is well formed when", of three slices.
use Rattle.std.specs.Prelude.{ℕ, ◌+◌, ◌*◌, ◌≤◌, ◌<◌, ◌≡◌, true, List, length, get_or}
use Rattle.rules.specs.Limit as Limit
use Rattle.rules.specs.Valid.{Valid}
use Rattle.layout.specs.Layout as Layout
use Rattle.layout.specs.Rows.{flag_of, suspended_of, waiting_of, terminated_of, count_of, length_of, master_of}
use Rattle.layout.specs.View.{is_set, is_process, view}
use Rattle.layout.specs.Shape.{Blocks, Shape}

pub record Sized (b l w : List ℕ) : Type 0 where
  pub bytes : length b ≡ Layout.BYTES
  pub links : length l ≡ Layout.LINKS
  pub words : length w ≡ Layout.WORDS

-- what the slices' types say of their cells: 8, 16 and 32 bits
pub record Typed (b l w : List ℕ) : Type 0 where
  pub bytes : (i : ℕ) → get_or b i 0 ≤ 255
  pub links : (i : ℕ) → get_or l i 0 ≤ 65535
  pub words : (i : ℕ) → get_or w i 0 ≤ Limit.word

-- flag and marks are 0 or 1, a box has at most 4 messages, a message is 0 to 16 bytes
pub record Cells (b l : List ℕ) : Type 0 where
  pub flag : (o : ℕ) → is_set (master_of l o) ≡ true → flag_of b o ≤ 1
  pub suspended : (o : ℕ) → is_process (master_of l) (flag_of b) o ≡ true → suspended_of b o ≤ 1
  pub waiting : (o : ℕ) → is_process (master_of l) (flag_of b) o ≡ true → waiting_of b o ≤ 1
  pub terminated : (o : ℕ) → is_process (master_of l) (flag_of b) o ≡ true → terminated_of b o ≤ 1
  pub count : (o : ℕ) → is_process (master_of l) (flag_of b) o ≡ true → count_of b o ≤ Limit.box
  pub length : (o m : ℕ) → is_process (master_of l) (flag_of b) o ≡ true → m < count_of b o
      → length_of b (o * Limit.box + m) ≤ Limit.message

pub record WellFormed (b l w : List ℕ) : Type 0 where
  -- each slice has exactly its length in docs/
  pub sized : Sized b l w
  -- all ranges above hold, where the meaning of a cell does not show its range
  pub cells : Cells b l
  -- every object has one tree with one sound master, and a chain of exactly the blocks that its size needs; each record
  -- is in exactly one chain of its kind
  pub shape : Shape l
  -- all other ranges; unique names and p1; a master's window is 0 to the size; every climb by parents ends at that
  -- master; child in parent; lockwords; the money total
  pub valid : Valid (view b l w)

-- what a function asks of a store where it looks at no tree's links: a well-formed store has it
pub record Plain (b l w : List ℕ) : Type 0 where
  pub sized : Sized b l w
  pub cells : Cells b l
  -- each block is in exactly one chain, and an object's has the blocks that its size needs
  pub blocks : Blocks l
  pub valid : Valid (view b l w)
