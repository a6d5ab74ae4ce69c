-- Capabilities that end: the links without a leaf, without all that is below a capability, and without both.
use Rattle.std.specs.Prelude.{ℕ, zero, suc, ◌+◌, ◌≤◌, ◌≡◌, ◌≢◌, true, false, List, eqb, length, get_or, set, Option, None, unwrap_or}
use Rattle.rules.specs.Limit as Limit
use Rattle.layout.specs.Layout as Layout
use Rattle.layout.specs.Rows.{owner_of, parent_of, first_child_of, next_cap_of, prev_cap_of}
use Rattle.layout.specs.Shape.{Shape}
use Rattle.layout.specs.Sizes.{Slot}

-- ---- a leaf

-- the cell that names a capability with parent p and previous sibling q: its parent's first child, or q's next sibling
unfoldable pub named_at : ℕ → ℕ → ℕ
named_at p q = elim (eqb q 0) [ true ↦ Layout.FIRST_CHILD + p | false ↦ Layout.NEXT_CAP + q ]

-- j with parent p, previous sibling q and next sibling s is out of its chain: what named j names s, and q is before s
abbrev pub skipped : List ℕ → ℕ → ℕ → ℕ → List ℕ
skipped l p q s = set (set l (named_at p q) s) (Layout.PREV_CAP + s) q

-- 01, "A freed record or block is used again": j is in front of the free records of its kind, whose links are in the row
-- `next` and whose first is in the cell `head`, and its cell of the row `of` is 0
unfoldable pub freed : ℕ → ℕ → ℕ → List ℕ → ℕ → List ℕ
freed of next head l j = set (set (set l (of + j) 0) (next + j) (get_or l head 0)) head j

-- a capability's, of no object
unfoldable pub freed_cap : List ℕ → ℕ → List ℕ
freed_cap l j = set
    (set (set l (Layout.OWNER + j) 0) (Layout.NEXT_CAP + j) (get_or l Layout.FREE_CAPS 0))
    Layout.FREE_CAPS j

-- the links once j, which has no child, has ended
unfoldable pub dropped_links : List ℕ → ℕ → List ℕ
dropped_links l j = freed_cap (skipped l (parent_of l j) (prev_cap_of l j) (next_cap_of l j)) j

-- ---- all below k: down to a leaf, which ends, and on at its parent, until k is a leaf itself

-- one turn at slot j: the links that it leaves
unfoldable pub turned_links : List ℕ → ℕ → ℕ → List ℕ
turned_links l k j = elim (eqb (first_child_of l j) 0) [
  | true ↦ elim (eqb j k) [ true ↦ l | false ↦ dropped_links l j ]
  | false ↦ l
]

-- and the slot where the next turn is, 0 for none
unfoldable pub turned_slot : List ℕ → ℕ → ℕ → ℕ
turned_slot l k j = elim (eqb (first_child_of l j) 0) [
  | true ↦ elim (eqb j k) [ true ↦ 0 | false ↦ parent_of l j ]
  | false ↦ first_child_of l j
]

-- n turns from slot j on, or fewer
unfoldable pub pruned_from : ℕ → List ℕ → ℕ → ℕ → List ℕ
pruned_from zero l k j = l
pruned_from (suc n) l k j = elim (eqb j 0) [
  | true ↦ l
  | false ↦ pruned_from n (turned_links l k j) k (turned_slot l k j)
]

-- the links once all descendants of k have ended; 512 capabilities take no more turns than this
unfoldable pub pruned_links : List ℕ → ℕ → List ℕ
pruned_links l k = pruned_from 2048 l k k

-- ---- delete_cap of one that is no master

-- the links once k and all its descendants have ended
unfoldable pub deleted_links : List ℕ → ℕ → List ℕ
deleted_links l k = dropped_links (pruned_links l k) k

-- ---- what the code asks

pub record CapAsks (l : List ℕ) (j : ℕ) : Type 0 where
  pub links : length l ≡ Layout.LINKS
  pub slot : Slot Limit.caps j

-- j is a capability's slot, and its links name slots, or none
pub record NamesSlots (l : List ℕ) (j : ℕ) : Type 0 where
  pub links : length l ≡ Layout.LINKS
  pub low : 1 ≤ j
  pub high : j ≤ Limit.caps
  pub parent-high : parent_of l j ≤ Limit.caps
  pub next-high : next_cap_of l j ≤ Limit.caps
  pub prev-high : prev_cap_of l j ≤ Limit.caps

-- k is a living capability of links of a well-formed store's shape
pub record LivingCap (l : List ℕ) (k : ℕ) : Type 0 where
  pub links : length l ≡ Layout.LINKS
  pub shape : Shape l
  pub live : owner_of l k ≢ 0

-- that, and it has a parent
pub record Child (l : List ℕ) (k : ℕ) : Type 0 where
  pub living : LivingCap l k
  pub parent : parent_of l k ≢ 0

-- one turn at slot j leaves the links l' and goes on at slot r
pub record TurnLeaves (l : List ℕ) (k j : ℕ) (l' : List ℕ) (r : Option ℕ) : Type 0 where
  pub links-is : l' ≡ turned_links l k j
  pub slot_is : unwrap_or r 0 ≡ turned_slot l k j
  -- none where k is a leaf
  pub over : first_child_of l j ≡ 0 → j ≡ k → r ≡ None
