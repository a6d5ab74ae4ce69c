-- Stores of equal meaning. No slot is seen: an object is known by its name, a capability by its object's
-- name and its p1, its parent by the parent's p1. A name is unique, and so is a p1 in its object; parent and child are of
-- one object.
use Rattle.std.specs.Prelude.{ℕ, ◌≡◌, Bool, ◌&&◌, List, eqb}
use Rattle.rules.specs.Limit as Limit
use Rattle.rules.specs.Slots.{find}
use Rattle.rules.specs.Store.{Name, Password, Window, Lockword, Marks, Message, State}
use Rattle.rules.specs.Store.{same_name, cap_lives, object_named}

-- ---- an object

pub record ObjectSeen : Type 0 where
  pub live : Bool
  pub size : ℕ
  pub process : Bool
  pub bytes : List ℕ
  pub marks : Marks
  pub cash : ℕ
  pub lock : Lockword
  pub box : List Message

unfoldable pub object_at : State → ℕ → ObjectSeen
object_at s o = record {
  live = (s.object o).live;
  size = (s.object o).size;
  process = (s.object o).process;
  bytes = s.bytes o;
  marks = s.marks o;
  cash = s.cash o;
  lock = s.lock o;
  box = s.box o;
}

-- what is seen of the object of this name; where there is none it is not live, and all else is zero
unfoldable pub object_seen : State → Name → ObjectSeen
object_seen s n = object_at s (object_named s n)

-- ---- a capability

pub record CapSeen : Type 0 where
  pub live : Bool
  pub password : Password
  pub window : Window
  pub rights : ℕ
  pub last_day : ℕ
  pub moneyword : ℕ
  -- it has no parent
  pub master : Bool
  -- its parent's p1, 0 where it has none
  pub parent : ℕ

unfoldable pub cap_at : State → ℕ → CapSeen
cap_at s i = record {
  live = cap_lives s i;
  password = (s.cap i).password;
  window = (s.cap i).window;
  rights = (s.cap i).rights;
  last_day = (s.cap i).last_day;
  moneyword = s.money i;
  master = eqb (s.cap i).parent 0;
  parent = (s.cap (s.cap i).parent).password.p1;
}

-- the slot of the capability with this p1 of the object named, 0 if there is none
unfoldable pub cap_named : State → Name → ℕ → ℕ
cap_named s n p1 = find Limit.caps (λ i. cap_lives s i
    && same_name (s.object (s.cap i).object).name n
    && eqb (s.cap i).password.p1 p1)

-- what is seen of it; where there is none it is not live, has no parent, and all else is zero
unfoldable pub cap_seen : State → Name → ℕ → CapSeen
cap_seen s n p1 = cap_at s (cap_named s n p1)

-- ---- a store

pub record SameMeaning (s t : State) : Type 0 where
  pub house : t.house ≡ s.house
  pub day : t.day ≡ s.day
  pub objects : (n : Name) → object_seen t n ≡ object_seen s n
  pub caps : (n : Name) (p1 : ℕ) → cap_seen t n p1 ≡ cap_seen s n p1

-- a theorem that computes with this file's definitions says `unfolding` and this name
unfoldable pub computes : Unit {0}
unfolding object_at object_seen cap_at cap_named cap_seen
computes = tt
