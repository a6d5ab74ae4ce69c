-- Free blocks taken for a new object: whether there are enough, their bytes set to zero, and the chain of free blocks
-- cut.
use Rattle.std.specs.Prelude.{ℕ, zero, suc, ◌+◌, ◌*◌, ◌≤◌, ◌≡◌, Bool, false, List, eqb, length, get_or, set}
use Rattle.rules.specs.Limit as Limit
use Rattle.layout.specs.Layout as Layout
use Rattle.layout.specs.Rows.{next_block_of}
use Rattle.layout.specs.Shape.{Chain}
use Rattle.call_blocks.specs.Walk.{hop}

-- the first free block, and the one n steps after it
abbrev pub free_head : List ℕ → ℕ
free_head l = get_or l Layout.FREE_BLOCKS 0

abbrev pub free_block : List ℕ → ℕ → ℕ
free_block l n = hop (next_block_of l) n (free_head l)

-- the last of the first n free blocks, 0 where n is 0
unfoldable pub last_taken : List ℕ → ℕ → ℕ
last_taken l zero = 0
last_taken l (suc m) = free_block l m

-- 01, "too few free blocks": there is no n-th
unfoldable pub too_few : List ℕ → ℕ → Bool
too_few l zero = false
too_few l (suc m) = eqb (free_block l m) 0

-- ---- 01, "New bytes are zero"

-- n cells from `from` on
unfoldable pub zeroed : ℕ → ℕ → List ℕ → List ℕ
zeroed zero from b = b
zeroed (suc n) from b = set (zeroed n from b) (from + n) 0

-- where the bytes of block k start
abbrev pub data_from : ℕ → ℕ
data_from k = Layout.DATA + k * Limit.block

-- the bytes of n blocks from block k on
unfoldable pub cleared : (ℕ → ℕ) → ℕ → ℕ → List ℕ → List ℕ
cleared next zero k b = b
cleared next (suc n) k b = cleared next n (next k) (zeroed Limit.block (data_from k) b)

abbrev pub cleared_bytes : List ℕ → List ℕ → ℕ → List ℕ
cleared_bytes b l n = cleared (next_block_of l) n (free_head l) b

-- ---- the first n free blocks are the chain of the object in slot o

unfoldable pub taken_links : List ℕ → ℕ → ℕ → List ℕ
taken_links l o zero = set l (Layout.FIRST_BLOCK + o) 0
taken_links l o (suc m) =
    set
    (set (set l Layout.FREE_BLOCKS (next_block_of l (free_block l m))) (Layout.NEXT_BLOCK + free_block l m) 0)
    (Layout.FIRST_BLOCK + o)
    (free_head l)

-- ---- what the code asks

-- the free blocks are a chain
pub record FreeChain (l : List ℕ) : Type 0 where
  pub links : length l ≡ Layout.LINKS
  pub chain : (xs : List ℕ) × Chain Limit.blocks (next_block_of l) (free_head l) xs

-- of n blocks or more
pub record Enough (l : List ℕ) (n : ℕ) : Type 0 where
  pub links : length l ≡ Layout.LINKS
  pub chain : (xs : List ℕ) × Chain Limit.blocks (next_block_of l) (free_head l) xs × (n ≤ length xs)
