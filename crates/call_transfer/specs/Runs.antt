-- Where an object's bytes stand in the cells, and the own parts of read and write, exactly. The slices are those that
-- the fee left; `k` is the slot of the capability presented.
use Rattle.std.specs.Prelude.{ℕ, ◌+◌, ◌*◌, ◌-◌, ◌/◌, ◌%◌, ◌≤◌, ◌≡◌, not, List, [], ◌∷◌, length, get_or, take, drop}
use Rattle.rules.specs.Code as Code
use Rattle.rules.specs.Limit as Limit
use Rattle.rules.specs.Store.{Window, blocks}
use Rattle.rules.specs.Refusals.{◌when◌, first}
use Rattle.rules.specs.Calls.{lies_in}
use Rattle.layout.specs.Layout as Layout
use Rattle.layout.specs.Rows.{size_of, first_block_of, owner_of, next_block_of, end_of, data_in}
use Rattle.layout.specs.View.{gather}
use Rattle.layout.specs.Shape.{Chain}
use Rattle.layout.specs.WellFormed.{Sized}
use Rattle.call_blocks.specs.Walk.{hop, Blocked}
use Rattle.call_steps.specs.Copies.{laid}
use Rattle.call_steps.specs.Run.{Target, Ran, over, handed_over, settled, window_in}

-- ---- places

-- the cell of byte p of the object whose first block is head: the block of byte p comes p / 64 blocks after it
unfoldable pub cell_of : List ℕ → ℕ → ℕ → ℕ
cell_of l head p = Layout.DATA + hop (next_block_of l) (p / Limit.block) head * Limit.block + p % Limit.block

-- a buffer that n bytes of the object, from start on, are copied to
abbrev pub copied_out : List ℕ → List ℕ → ℕ → ℕ → ℕ → List ℕ → List ℕ
copied_out b l head start n buffer = laid (λ i. i) (λ i. get_or b (cell_of l head (start + i)) 0) n buffer

-- the store's bytes, where the text is copied to the object, from start on
abbrev pub copied_in : List ℕ → ℕ → ℕ → List ℕ → ℕ → List ℕ → List ℕ
copied_in l head start text n b = laid (λ i. cell_of l head (start + i)) (λ i. get_or text i 0) n b

-- ---- read, write: 7 the range is not inside the window

abbrev pub range : ℕ → ℕ → Window
range start end = record { start = start; end = end }

unfoldable pub inside : List ℕ → ℕ → ℕ → ℕ → ℕ
inside w k start end = first (Code.outside_window when not (lies_in (range start end) (window_in w k)) ∷ [])

-- the bytes of the object in slot o
unfoldable pub bytes_in : List ℕ → List ℕ → ℕ → List ℕ
bytes_in b l o = take (size_of l o) (gather (blocks (size_of l o)) (next_block_of l) (data_in b) (first_block_of l o))

-- ---- read

-- its bytes from start to end
abbrev pub part : List ℕ → List ℕ → ℕ → ℕ → ℕ → List ℕ
part b l o start end = take (end - start) (drop start (bytes_in b l o))

unfoldable pub read_run : List ℕ → List ℕ → List ℕ → ℕ → ℕ → ℕ → Ran
read_run b l w k start end = settled (inside w k start end) b l w (handed_over 0 (part b l (owner_of l k) start end) b l w)

-- ---- write

unfoldable pub write_run : List ℕ → List ℕ → List ℕ → ℕ → ℕ → ℕ → List ℕ → Ran
write_run b l w k start end text = settled (inside w k start end) b l w
    (over Code.done (copied_in l (first_block_of l (owner_of l k)) start text (length text) b) l w)

-- ---- what the code asks

-- capability k lives and names a living object, whose blocks are there and hold the window
pub record BlocksHold (l w : List ℕ) (k : ℕ) : Type 0 where
  pub owned : Target l k
  pub chain : (xs : List ℕ) × Chain Limit.blocks (next_block_of l) (first_block_of l (owner_of l k)) xs
      × (length xs ≡ blocks (size_of l (owner_of l k)))
  pub fits : end_of w k ≤ size_of l (owner_of l k)
  pub size : size_of l (owner_of l k) ≤ Limit.size

pub record ReadAsks (b l w buffer : List ℕ) (k start end : ℕ) : Type 0 where
  pub sized : Sized b l w
  pub target : BlocksHold l w k
  pub ordered : start ≤ end
  pub short : end ≤ start + Limit.transfer
  pub room : Limit.buffer ≤ length buffer

-- n bytes from start on of the object whose first block is head
pub record CopyAsks (b l : List ℕ) (head start n : ℕ) : Type 0 where
  pub bytes : length b ≡ Layout.BYTES
  pub links : length l ≡ Layout.LINKS
  pub small : start + n ≤ Limit.size
  pub blocked : Blocked l head (blocks (start + n))

pub record WriteAsks (b l w text : List ℕ) (k start end : ℕ) : Type 0 where
  pub sized : Sized b l w
  pub target : BlocksHold l w k
  pub ordered : start ≤ end
  pub long : length text ≡ end - start
