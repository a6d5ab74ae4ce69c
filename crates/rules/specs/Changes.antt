-- The changes that calls make to a state, each named once: cash and the house, marks, moneywords on a climb, a new object
-- or capability, and the end of some.
use Rattle.std.specs.Prelude.{ℕ, ◌+◌, ◌-◌, Bool, true, false, [], replicate}
use Rattle.rules.specs.Slots.{at}
use Rattle.rules.specs.Store.{Marks, Object, Cap, State, no_lockword, no_object, no_cap, descends}
use Rattle.rules.specs.Update.{with_house, with_cash, with_marks, with_cap, with_money}

-- ---- cash and the house

-- the cash at slot i grows by n
unfoldable pub earn : State → ℕ → ℕ → State
earn s i n = with_cash s (at s.cash i (s.cash i + n))

-- the cash at slot i falls by n
unfoldable pub spend : State → ℕ → ℕ → State
spend s i n = with_cash s (at s.cash i (s.cash i - n))

unfoldable pub to_house : State → ℕ → State
to_house s n = with_house s (s.house + n)

-- ---- the marks of the process at slot i

unfoldable pub set_suspended : State → ℕ → Bool → State
set_suspended s i b =
    let m : Marks = s.marks i in
    with_marks s (at s.marks i (record { suspended = b; waiting = m.waiting; terminated = m.terminated }))

unfoldable pub set_waiting : State → ℕ → Bool → State
set_waiting s i b =
    let m : Marks = s.marks i in
    with_marks s (at s.marks i (record { suspended = m.suspended; waiting = b; terminated = m.terminated }))

unfoldable pub set_terminated : State → ℕ → Bool → State
set_terminated s i b =
    let m : Marks = s.marks i in
    with_marks s (at s.marks i (record { suspended = m.suspended; waiting = m.waiting; terminated = b }))

-- ---- moneywords, capabilities, objects

-- each moneyword on the climb from k to its master goes through f
unfoldable pub on_climb : State → ℕ → (ℕ → ℕ) → State
on_climb s k f = with_money s (λ i. elim (descends s k i) [ true ↦ f (s.money i) | false ↦ s.money i ])

-- a new capability in slot i, given its moneyword
unfoldable pub new_cap : State → ℕ → Cap → ℕ → State
new_cap s i x moneyword = with_money (with_cap s (at s.cap i x)) (at s.money i moneyword)

-- the capabilities that pass the test end
unfoldable pub end_where : State → (ℕ → Bool) → State
end_where s test = with_money
    (with_cap s (λ i. elim (test i) [ true ↦ no_cap | false ↦ s.cap i ]))
    (λ i. elim (test i) [ true ↦ 0 | false ↦ s.money i ])

-- a new object in slot o: its bytes zero, a process suspended, not waiting, not terminated, its box empty, its cash and
-- lockword 0
unfoldable pub new_object : State → ℕ → Object → State
new_object s o x = record {
  house = s.house;
  day = s.day;
  object = at s.object o x;
  bytes = at s.bytes o (replicate x.size 0);
  lock = at s.lock o no_lockword;
  cash = at s.cash o 0;
  marks = at s.marks o (record { suspended = x.process; waiting = false; terminated = false });
  box = at s.box o [];
  cap = s.cap;
  money = s.money;
}

-- the object in slot o ends, and with it all that it held: the slot is as if nothing had been there
unfoldable pub end_object : State → ℕ → State
end_object s o = new_object s o no_object

-- a theorem that computes with this file's definitions says `unfolding` and this name
unfoldable pub computes : Unit {0}
unfolding earn spend to_house set_suspended set_waiting set_terminated on_climb new_cap end_where new_object end_object
computes = tt
