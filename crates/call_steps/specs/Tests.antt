-- The rules' tests of one slot, each by its name, and the slots of which the code asks them.
use Rattle.std.specs.Prelude.{ℕ, zero, suc, Option, Some, None, ◌+◌, ◌≤◌, ◌≡◌, Bool, not, ◌&&◌, ◌||◌, List, eqb, get_or}
use Rattle.rules.specs.Limit as Limit
use Rattle.rules.specs.Slots.{find}
use Rattle.rules.specs.Store.{Name, State, same_name}
use Rattle.layout.specs.Rows.{suspended_of, waiting_of, terminated_of}
use Rattle.layout.specs.View.{is_set}
use Rattle.layout.specs.Sizes.{Slot}

abbrev pub ObjectSlot : ℕ → Type 0
ObjectSlot = Slot Limit.objects

abbrev pub CapSlot : ℕ → Type 0
CapSlot = Slot Limit.caps

-- slot o holds a living object of this name
unfoldable pub named : State → Name → ℕ → Bool
named s n o = (s.object o).live && same_name (s.object o).name n

-- no mark of slot o is set
unfoldable pub unmarked : List ℕ → ℕ → Bool
unmarked b o = not (is_set (suspended_of b o) || is_set (waiting_of b o) || is_set (terminated_of b o))

-- slot i holds a capability of object o with this p1
unfoldable pub taken : State → ℕ → ℕ → ℕ → Bool
taken s o p1 i = eqb (s.cap i).object o && eqb (s.cap i).password.p1 p1

-- the cell of slot k in the row from off on is x, whether or not the slot holds a record
unfoldable pub cell_is : ℕ → List ℕ → ℕ → ℕ → Bool
cell_is off l x k = eqb (get_or l (off + k) 0) x

-- from slot r down the same slot is found as from slot n
pub record SameFrom (t : ℕ → Bool) (n r : ℕ) : Type 0 where
  pub high : r ≤ n
  pub same : find n t ≡ find r t

-- a slot that is found, where 0 is none
abbrev pub slot_found : ℕ → Option ℕ
slot_found zero = None
slot_found (suc n) = Some (suc n)
