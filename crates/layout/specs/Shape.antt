-- 01, "Blocks, children, objects and free records are chained by a next index" and "A record is sound when": the shape
-- of the links of a well-formed store. Each part speaks of the rows that it depends on.
use Rattle.std.specs.Prelude.{ℕ, ◌+◌, ◌≤◌, ◌≡◌, ◌≢◌, List, [], ◌∷◌, eqb, get_or, length}
use Rattle.rules.specs.Limit as Limit
use Rattle.rules.specs.Slots.{one, sum_over}
use Rattle.rules.specs.Store.{blocks}
use Rattle.layout.specs.Layout as Layout
use Rattle.layout.specs.Rows.{master_of, size_of, first_block_of, next_object_of, next_block_of}
use Rattle.layout.specs.Rows.{owner_of, parent_of, first_child_of, next_cap_of, prev_cap_of}

-- ---- chains: record numbers start at 1 and zero ends the chain

-- xs are the records of the chain that starts at head, each a number from 1 to n
unfoldable pub Chain : ℕ → (ℕ → ℕ) → ℕ → List ℕ → Type 0
Chain n next head [] = head ≡ 0
Chain n next head (j ∷ xs) = (head ≡ j) × (1 ≤ j) × (j ≤ n) × Chain n next (next j) xs

-- how often k stands in a chain
unfoldable pub times : ℕ → List ℕ → ℕ
times k [] = 0
times k (j ∷ xs) = one (eqb k j) + times k xs

-- ---- trees: a chain of records, each with the chain of its children

pub data Forest : Type 0 where
  nil : Forest
  node : (j : ℕ) (children rest : Forest) → Forest

-- how often k stands in a forest
unfoldable pub count : ℕ → Forest → ℕ
count k nil = 0
count k (node j children rest) = one (eqb k j) + count k children + count k rest

-- a record's links agree with its neighbours': j is a capability of object o, below parent and after prev
pub record Agree (owner above back : ℕ → ℕ) (o parent prev j : ℕ) : Type 0 where
  pub low : 1 ≤ j
  pub high : j ≤ Limit.caps
  pub owner-is : owner j ≡ o
  pub parent_is : above j ≡ parent
  pub prev-is : back j ≡ prev

-- and every child in its chain is sound: F is the chain from head on of object o's records, below parent and after prev
unfoldable pub Sound : (owner above first next back : ℕ → ℕ) → ℕ → ℕ → ℕ → ℕ → Forest → Type 0
Sound owner above first next back o parent prev head nil = head ≡ 0
Sound owner above first next back o parent prev head (node j children rest) =
    (head ≡ j)
    × Agree owner above back o parent prev j
    × Sound owner above first next back o j 0 (first j) children
    × Sound owner above first next back o parent j (next j) rest

-- ---- objects: each of 1 to 64 is in one of two chains, once; those of the first have a master, those of the second none

pub record ObjectChains (master next : ℕ → ℕ) (head free-head : ℕ) : Type 0 where
  pub live : List ℕ
  pub free : List ℕ
  pub live-chain : Chain Limit.objects next head live
  pub free-chain : Chain Limit.objects next free-head free
  pub once : (o : ℕ) → 1 ≤ o → o ≤ Limit.objects → times o live + times o free ≡ 1
  pub alive : (o : ℕ) → 1 ≤ times o live → master o ≢ 0
  pub dead : (o : ℕ) → 1 ≤ times o free → master o ≡ 0

-- ---- capabilities: every object has one tree with one sound master; a master counts as a chain of one

-- F is the tree of object o: its master alone, with no parent and no sibling, and what is below; a free object has none
pub record HasTree (master owner above first next back : ℕ → ℕ) (o : ℕ) (F : Forest) : Type 0 where
  pub live : master o ≢ 0
      → (children : Forest) × (F ≡ node (master o) children nil)
      × Sound owner above first next back o 0 0 (master o) F
  pub dead : master o ≡ 0 → F ≡ nil

-- each of 1 to 512 is in one object's tree or in the free list, once; a free one has no object
pub record CapTrees (master owner above first next back : ℕ → ℕ) (free-head : ℕ) : Type 0 where
  pub tree : ℕ → Forest
  pub free : List ℕ
  pub trees : (o : ℕ) → 1 ≤ o → o ≤ Limit.objects → HasTree master owner above first next back o (tree o)
  pub free-chain : Chain Limit.caps next free-head free
  pub free-owner : (k : ℕ) → 1 ≤ times k free → owner k ≡ 0
  pub once : (k : ℕ) → 1 ≤ k → k ≤ Limit.caps → sum_over Limit.objects (λ o. count k (tree o)) + times k free ≡ 1

-- ---- blocks: a chain of exactly the blocks that its size needs; a free object has none

pub record HasBlocks (master size first next : ℕ → ℕ) (o : ℕ) (xs : List ℕ) : Type 0 where
  pub live : master o ≢ 0 → Chain Limit.blocks next (first o) xs × (length xs ≡ blocks (size o))
  pub dead : master o ≡ 0 → xs ≡ []

-- each of 1 to 512 is in one object's chain or in the free list, once
pub record BlockChains (master size first next : ℕ → ℕ) (free-head : ℕ) : Type 0 where
  pub chain : ℕ → List ℕ
  pub free : List ℕ
  pub chains : (o : ℕ) → 1 ≤ o → o ≤ Limit.objects → HasBlocks master size first next o (chain o)
  pub free-chain : Chain Limit.blocks next free-head free
  pub once : (k : ℕ) → 1 ≤ k → k ≤ Limit.blocks → sum_over Limit.objects (λ o. times k (chain o)) + times k free ≡ 1

-- ---- the same of the rows of a slice of links

abbrev pub SoundIn : List ℕ → ℕ → ℕ → ℕ → ℕ → Forest → Type 0
SoundIn l = Sound (owner_of l) (parent_of l) (first_child_of l) (next_cap_of l) (prev_cap_of l)

abbrev pub Objects : List ℕ → Type 0
Objects l = ObjectChains (master_of l) (next_object_of l) (get_or l Layout.OBJECTS 0) (get_or l Layout.FREE_OBJECTS 0)

abbrev pub TreeOf : List ℕ → ℕ → Forest → Type 0
TreeOf l = HasTree (master_of l) (owner_of l) (parent_of l) (first_child_of l) (next_cap_of l) (prev_cap_of l)

abbrev pub Caps : List ℕ → Type 0
Caps l =
    CapTrees (master_of l) (owner_of l) (parent_of l) (first_child_of l) (next_cap_of l) (prev_cap_of l)
    (get_or l Layout.FREE_CAPS 0)

abbrev pub BlocksOf : List ℕ → ℕ → List ℕ → Type 0
BlocksOf l = HasBlocks (master_of l) (size_of l) (first_block_of l) (next_block_of l)

abbrev pub Blocks : List ℕ → Type 0
Blocks l = BlockChains (master_of l) (size_of l) (first_block_of l) (next_block_of l) (get_or l Layout.FREE_BLOCKS 0)

-- each record is in exactly one chain of its kind
pub record Shape (l : List ℕ) : Type 0 where
  pub objects : Objects l
  pub caps : Caps l
  pub blocks : Blocks l
