-- 01, "A freed record or block is used again": the links where an object's blocks, its record and its master's record
-- go to the fronts of the chains of free ones, exactly. Cells of slot 0 are no record's: a store there shows nowhere.
use Rattle.std.specs.Prelude.{ℕ, ◌+◌, ◌-◌, ◌≡◌, Bool, true, false, List, eqb, length, get_or, set}
use Rattle.rules.specs.Limit as Limit
use Rattle.rules.specs.Slots.{find}
use Rattle.rules.specs.Store.{blocks}
use Rattle.layout.specs.Layout as Layout
use Rattle.layout.specs.Rows.{size_of, first_block_of, next_object_of, next_block_of}
use Rattle.layout.specs.Shape.{Chain}
use Rattle.call_steps.specs.Tests.{ObjectSlot}
use Rattle.call_blocks.specs.Walk.{hop}
use Rattle.call_prune.specs.Links.{freed_cap}

-- x, but z where x is y
unfoldable pub instead : ℕ → ℕ → ℕ → ℕ
instead x y z = elim (eqb x y) [ true ↦ z | false ↦ x ]

-- ---- blocks

-- the last of the blocks of the object in slot o, 0 if it has none
unfoldable pub last_block : List ℕ → ℕ → ℕ
last_block l o = hop (next_block_of l) (blocks (size_of l o) - 1) (first_block_of l o)

-- its blocks are in front of the free ones
unfoldable pub given_blocks : List ℕ → ℕ → List ℕ
given_blocks l o = set
    (set l (Layout.NEXT_BLOCK + last_block l o) (get_or l Layout.FREE_BLOCKS 0))
    Layout.FREE_BLOCKS (instead (first_block_of l o) 0 (get_or l Layout.FREE_BLOCKS 0))

-- ---- objects

-- o is the object after that in slot i
unfoldable pub is_before : List ℕ → ℕ → ℕ → Bool
is_before l o i = eqb (next_object_of l i) o

-- the object before that in slot o, 0 if it is the first
unfoldable pub before : List ℕ → ℕ → ℕ
before l o = find Limit.objects (is_before l o)

-- o out of the chain of objects
unfoldable pub unlinked : List ℕ → ℕ → List ℕ
unlinked l o = set
    (set l (Layout.NEXT_OBJECT + before l o) (next_object_of l o))
    Layout.OBJECTS (instead (get_or l Layout.OBJECTS 0) o (next_object_of l o))

-- and in front of the free ones, with no master
unfoldable pub freed_object : List ℕ → ℕ → List ℕ
freed_object l o = set
    (set (set l (Layout.MASTER + o) 0) (Layout.NEXT_OBJECT + o) (get_or l Layout.FREE_OBJECTS 0))
    Layout.FREE_OBJECTS o

-- ---- the whole

-- the object in slot o, with its blocks and its master m
unfoldable pub ended_links : List ℕ → ℕ → ℕ → List ℕ
ended_links l o m = freed_cap (freed_object (unlinked (given_blocks l o) o) o) m

-- ---- what the code asks

pub record BlocksAsk (l : List ℕ) (o : ℕ) : Type 0 where
  pub links : length l ≡ Layout.LINKS
  pub slot : ObjectSlot o
  pub chain : (xs : List ℕ) × Chain Limit.blocks (next_block_of l) (first_block_of l o) xs × (length xs ≡ blocks (size_of l o))

pub record ObjectAsks (l : List ℕ) (o : ℕ) : Type 0 where
  pub links : length l ≡ Layout.LINKS
  pub slot : ObjectSlot o
