-- derive_cap's own part, exactly: its refusals by tests on the cells, and what it does by stores to them. The slices are
-- those that the fee left; `k` is the slot of the capability presented.
use Rattle.std.specs.Prelude.{ℕ, ◌+◌, ◌≤◌, min, ◌≡◌, ◌≢◌, List, [], ◌∷◌, eqb, length, set}
use Rattle.rules.specs.Limit as Limit
use Rattle.rules.specs.Code as Code
use Rattle.rules.specs.Slots.{some}
use Rattle.rules.specs.Store.{Password, Window, Cap}
use Rattle.rules.specs.Rights.{both}
use Rattle.rules.specs.Call.{hands_back}
use Rattle.rules.specs.Refusals.{◌when◌, first}
use Rattle.rules.specs.Calls.{moved}
use Rattle.layout.specs.Layout as Layout
use Rattle.layout.specs.Rows.{master_of, owner_of, first_child_of, rights_of, last_day_of, money_of}
use Rattle.layout.specs.View.{view}
use Rattle.layout.specs.WellFormed.{Sized}
use Rattle.call_steps.specs.Run.{Ran, settled, window_in}
use Rattle.call_steps.specs.Tests.{ObjectSlot, CapSlot, taken}
use Rattle.call_grow.specs.declared.cap.NewCap.{NewCap}
use Rattle.call_grow.specs.Made.{cap_of, free_cap, new_links, new_words}

-- ---- the child

-- the rules' `child` of the capability in slot k, by the cells
unfoldable pub child_in : List ℕ → List ℕ → ℕ → ℕ → Window → Password → ℕ → Cap
child_in l w k rights range drawn last_day = record {
  object = owner_of l k;
  parent = k;
  password = drawn;
  window = moved range (window_in w k);
  rights = both (rights_of l k) rights;
  last_day = min last_day (last_day_of l k);
}

pub record ChildAsks (l w : List ℕ) (k rights last_day : ℕ) : Type 0 where
  pub links : length l ≡ Layout.LINKS
  pub words : length w ≡ Layout.WORDS
  pub slot : CapSlot k
  pub rights-fit : rights ≤ Limit.rights
  pub day-fits : last_day ≤ Limit.day

-- r is that child, to be put before the first one
pub record IsChild (l w : List ℕ) (k rights : ℕ) (range : Window) (drawn : Password) (last_day : ℕ) (r : NewCap) : Type 0 where
  pub cap : cap_of r ≡ child_in l w k rights range drawn last_day
  pub next : r.next ≡ first_child_of l k

-- ---- the child linked

-- the links with the record x in slot i, the first free one, before `next`, which was the first child of k
unfoldable pub derived_links : List ℕ → ℕ → ℕ → Cap → ℕ → List ℕ
derived_links l i k x next =
    set (set (new_links l i x next) (Layout.FIRST_CHILD + k) i) (Layout.PREV_CAP + next) i

pub record AddAsks (l w : List ℕ) (k next : ℕ) : Type 0 where
  pub links : length l ≡ Layout.LINKS
  pub words : length w ≡ Layout.WORDS
  pub slot : CapSlot k
  pub next-high : next ≤ Limit.caps
  -- there is a free record
  pub low : 1 ≤ free_cap l
  pub high : free_cap l ≤ Limit.caps

-- the child's moneyword: the smaller of the limit and the parent's
abbrev pub money_under : List ℕ → ℕ → ℕ → ℕ
money_under w k limit = min limit (money_of w k)

-- l' and w' are what is left of the slices l and w
pub record Adds (l w : List ℕ) (k : ℕ) (x : Cap) (next limit : ℕ) (l' w' : List ℕ) : Type 0 where
  pub links : l' ≡ derived_links l (free_cap l) k x next
  pub words : w' ≡ new_words w (free_cap l) x (money_under w k limit)

-- ---- the call: 12 p1 is taken in the object; 13 512 capabilities live, so that no record is free

unfoldable pub derive_stop : List ℕ → List ℕ → List ℕ → ℕ → ℕ → ℕ
derive_stop b l w k p1 = first
    (Code.taken when some Limit.caps (taken (view b l w) (owner_of l k) p1)
    ∷ Code.no_space when eqb (free_cap l) 0
    ∷ [])

-- the child made, and handed back as drawn
unfoldable pub derived : List ℕ → List ℕ → List ℕ → ℕ → Cap → ℕ → Ran
derived b l w k x limit = record {
  answer = (hands_back ((view b l w).object (owner_of l k)).name x.password (view b l w)).answer;
  bytes = b;
  links = derived_links l (free_cap l) k x (first_child_of l k);
  words = new_words w (free_cap l) x (money_under w k limit);
}

unfoldable pub derive_run : List ℕ → List ℕ → List ℕ → ℕ → ℕ → Window → Password → ℕ → ℕ → Ran
derive_run b l w k rights range drawn limit last_day =
    settled (derive_stop b l w k drawn.p1) b l w (derived b l w k (child_in l w k rights range drawn last_day) limit)

-- what the code asks
pub record DeriveAsks (b l w : List ℕ) (k rights last_day : ℕ) : Type 0 where
  pub sized : Sized b l w
  pub slot : CapSlot k
  -- the object that the capability is for lives
  pub object : ObjectSlot (owner_of l k)
  pub live : master_of l (owner_of l k) ≢ 0
  pub child-high : first_child_of l k ≤ Limit.caps
  pub free-high : free_cap l ≤ Limit.caps
  pub rights-fit : rights ≤ Limit.rights
  pub day-fits : last_day ≤ Limit.day
