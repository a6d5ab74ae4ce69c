-- 01, "The store": its records by slot, the climb by parents, what lives, the money total, and the fresh store.
-- A free slot holds the record of zeros, whatever a freed record holds in the slices.
use Rattle.std.specs.Prelude.{ℕ, ◌+◌, ◌-◌, ◌/◌, ◌≤◌, ◌<◌, Bool, true, false, not, ◌&&◌, List, [], ◌∷◌, eqb}
use Rattle.rules.specs.Limit as Limit
use Rattle.rules.specs.Slots.{at, find, sum_over, count_over, mem, climb, last_of}

-- ---- the parts of a record

-- an object's name: its volume and a serial
pub record Name : Type 0 where
  pub volume : ℕ
  pub serial : ℕ

unfoldable pub same_name : Name → Name → Bool
same_name a b = eqb a.volume b.volume && eqb a.serial b.serial

-- a password: two 32-bit halves
pub record Password : Type 0 where
  pub p1 : ℕ
  pub p2 : ℕ

unfoldable pub same_password : Password → Password → Bool
same_password a b = eqb a.p1 b.p1 && eqb a.p2 b.p2

-- a window, or a range: it holds start and excludes end; equal means empty
pub record Window : Type 0 where
  pub start : ℕ
  pub end : ℕ

-- it has byte p
abbrev pub Has : Window → ℕ → Type 0
Has v p = (v.start ≤ p) × (p < v.end)

-- two have no byte in common
unfoldable pub Apart : Window → Window → Type 0
Apart v w = (p : ℕ) → Has v p → Has w p → ⊥

-- a lockword: two 32-bit words
pub record Lockword : Type 0 where
  pub first : ℕ
  pub second : ℕ

-- a process's three marks
pub record Marks : Type 0 where
  pub suspended : Bool
  pub waiting : Bool
  pub terminated : Bool

-- a message: 0 to 16 bytes and a sum
pub record Message : Type 0 where
  pub bytes : List ℕ
  pub sum : ℕ

-- ---- the records

-- an object: what never changes while it lives
pub record Object : Type 0 where
  pub live : Bool
  pub name : Name
  pub size : ℕ
  pub process : Bool

-- a capability: what never changes while it lives.
-- `object` is the slot of its object, 0 in a free slot; `parent` is the slot of its parent, 0 for a master
pub record Cap : Type 0 where
  pub object : ℕ
  pub parent : ℕ
  pub password : Password
  pub window : Window
  pub rights : ℕ
  -- 02, CR 9
  pub last_day : ℕ

-- the house and the day (02, CR 9); by slots 1 to 64 each object, its bytes, and for a process its lockword, cash, marks and box, oldest
-- first; by slots 1 to 512 each capability and its moneyword
pub record State : Type 0 where
  pub house : ℕ
  pub day : ℕ
  pub object : ℕ → Object
  pub bytes : ℕ → List ℕ
  pub lock : ℕ → Lockword
  pub cash : ℕ → ℕ
  pub marks : ℕ → Marks
  pub box : ℕ → List Message
  pub cap : ℕ → Cap
  pub money : ℕ → ℕ

-- ---- the record of zeros of each kind

unfoldable pub no_name : Name
no_name = record { volume = 0; serial = 0 }

unfoldable pub no_password : Password
no_password = record { p1 = 0; p2 = 0 }

unfoldable pub no_window : Window
no_window = record { start = 0; end = 0 }

unfoldable pub no_lockword : Lockword
no_lockword = record { first = 0; second = 0 }

unfoldable pub no_marks : Marks
no_marks = record { suspended = false; waiting = false; terminated = false }

unfoldable pub no_object : Object
no_object = record { live = false; name = no_name; size = 0; process = false }

unfoldable pub no_cap : Cap
no_cap = record { object = 0; parent = 0; password = no_password; window = no_window; rights = 0; last_day = 0 }

-- ---- the climb by parents

-- from the capability at slot i up to its master
unfoldable pub path : State → ℕ → List ℕ
path s i = climb Limit.caps (λ j. (s.cap j).parent) i

-- the slot of the master that the climb from i ends at
unfoldable pub root_of : State → ℕ → ℕ
root_of s i = last_of (path s i) 0

-- i is k, or is one of its descendants
unfoldable pub descends : State → ℕ → ℕ → Bool
descends s i k = mem k (path s i)

-- ---- what lives

unfoldable pub cap_lives : State → ℕ → Bool
cap_lives s i = not (eqb (s.cap i).object 0)

-- the slot of the object with this name, 0 if there is none
unfoldable pub object_named : State → Name → ℕ
object_named s n = find Limit.objects (λ o. (s.object o).live && same_name (s.object o).name n)

-- the blocks of 64 bytes that a size needs: divided by 64, rounded up
unfoldable pub blocks : ℕ → ℕ
blocks size = (size + (Limit.block - 1)) / Limit.block

unfoldable pub objects_live : State → ℕ
objects_live s = count_over Limit.objects (λ o. (s.object o).live)

unfoldable pub caps_live : State → ℕ
caps_live s = count_over Limit.caps (λ i. cap_lives s i)

-- of the 512 blocks in all, those that no object holds
unfoldable pub free_blocks : State → ℕ
free_blocks s = Limit.blocks - sum_over Limit.objects (λ o. blocks (s.object o).size)

-- ---- the money total: all cash, all masters' moneywords, all sums in boxes, and the house

unfoldable pub sums_in : List Message → ℕ
sums_in [] = 0
sums_in (m ∷ l) = m.sum + sums_in l

unfoldable pub all_cash : State → ℕ
all_cash s = sum_over Limit.objects (λ o. s.cash o)

unfoldable pub all_masters : State → ℕ
all_masters s = sum_over Limit.caps (λ i. elim (eqb (s.cap i).parent 0) [ true ↦ s.money i | false ↦ 0 ])

unfoldable pub all_boxes : State → ℕ
all_boxes s = sum_over Limit.objects (λ o. sums_in (s.box o))

unfoldable pub money_in : State → ℕ
money_in s = all_cash s + all_masters s + all_boxes s + s.house

-- ---- the fresh store: one running process, volume 0 serial 1, size 0, lockword 0 and 0, all rights, moneyword 0,
-- cash equal to the supply; the house has 0, the day is 0. The process and its master have the last slots, where a look-up starts
unfoldable pub fresh : ℕ → Password → State
fresh supply p = record {
  house = 0;
  day = 0;
  object = at (λ o. no_object) Limit.objects (record {
    live = true;
    name = record { volume = 0; serial = 1 };
    size = 0;
    process = true;
  });
  bytes = λ o. [];
  lock = λ o. no_lockword;
  cash = at (λ o. 0) Limit.objects supply;
  marks = λ o. no_marks;
  box = λ o. [];
  cap = at (λ i. no_cap) Limit.caps (record {
    object = Limit.objects;
    parent = 0;
    password = p;
    window = no_window;
    rights = Limit.rights;
    last_day = Limit.day;
  });
  money = λ i. 0;
}

-- a theorem that computes with this file's definitions says `unfolding` and this name
unfoldable pub computes : Unit {0}
unfolding same_name same_password no_name no_password no_window no_lockword no_marks no_object no_cap path root_of descends
    cap_lives object_named blocks objects_live caps_live free_blocks sums_in all_cash all_masters all_boxes money_in fresh
computes = tt
