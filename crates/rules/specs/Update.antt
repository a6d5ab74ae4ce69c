-- A state with one part changed: antt's records have no update, so each part has its line here.
use Rattle.std.specs.Prelude.{ℕ, List}
use Rattle.rules.specs.Store.{Lockword, Marks, Message, Object, Cap, State}

unfoldable pub with_house : State → ℕ → State
with_house s x = record {
  house = x;
  day = s.day;
  object = s.object;
  bytes = s.bytes;
  lock = s.lock;
  cash = s.cash;
  marks = s.marks;
  box = s.box;
  cap = s.cap;
  money = s.money;
}

unfoldable pub with_day : State → ℕ → State
with_day s x = record {
  house = s.house;
  day = x;
  object = s.object;
  bytes = s.bytes;
  lock = s.lock;
  cash = s.cash;
  marks = s.marks;
  box = s.box;
  cap = s.cap;
  money = s.money;
}

unfoldable pub with_object : State → (ℕ → Object) → State
with_object s x = record {
  house = s.house;
  day = s.day;
  object = x;
  bytes = s.bytes;
  lock = s.lock;
  cash = s.cash;
  marks = s.marks;
  box = s.box;
  cap = s.cap;
  money = s.money;
}

unfoldable pub with_bytes : State → (ℕ → List ℕ) → State
with_bytes s x = record {
  house = s.house;
  day = s.day;
  object = s.object;
  bytes = x;
  lock = s.lock;
  cash = s.cash;
  marks = s.marks;
  box = s.box;
  cap = s.cap;
  money = s.money;
}

unfoldable pub with_lock : State → (ℕ → Lockword) → State
with_lock s x = record {
  house = s.house;
  day = s.day;
  object = s.object;
  bytes = s.bytes;
  lock = x;
  cash = s.cash;
  marks = s.marks;
  box = s.box;
  cap = s.cap;
  money = s.money;
}

unfoldable pub with_cash : State → (ℕ → ℕ) → State
with_cash s x = record {
  house = s.house;
  day = s.day;
  object = s.object;
  bytes = s.bytes;
  lock = s.lock;
  cash = x;
  marks = s.marks;
  box = s.box;
  cap = s.cap;
  money = s.money;
}

unfoldable pub with_marks : State → (ℕ → Marks) → State
with_marks s x = record {
  house = s.house;
  day = s.day;
  object = s.object;
  bytes = s.bytes;
  lock = s.lock;
  cash = s.cash;
  marks = x;
  box = s.box;
  cap = s.cap;
  money = s.money;
}

unfoldable pub with_box : State → (ℕ → List Message) → State
with_box s x = record {
  house = s.house;
  day = s.day;
  object = s.object;
  bytes = s.bytes;
  lock = s.lock;
  cash = s.cash;
  marks = s.marks;
  box = x;
  cap = s.cap;
  money = s.money;
}

unfoldable pub with_cap : State → (ℕ → Cap) → State
with_cap s x = record {
  house = s.house;
  day = s.day;
  object = s.object;
  bytes = s.bytes;
  lock = s.lock;
  cash = s.cash;
  marks = s.marks;
  box = s.box;
  cap = x;
  money = s.money;
}

unfoldable pub with_money : State → (ℕ → ℕ) → State
with_money s x = record {
  house = s.house;
  day = s.day;
  object = s.object;
  bytes = s.bytes;
  lock = s.lock;
  cash = s.cash;
  marks = s.marks;
  box = s.box;
  cap = s.cap;
  money = x;
}

-- a theorem that computes with this file's definitions says `unfolding` and this name
unfoldable pub computes : Unit {0}
unfolding with_house with_day with_object with_bytes with_lock with_cash with_marks with_box with_cap with_money
computes = tt
