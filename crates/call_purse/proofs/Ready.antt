-- What the two calls require, in a well-formed store: the climb ends, and what a withdrawal adds to the caller's cash
-- fits, by 01's "the money total is at most 4,294,967,295", since that cash and the master's moneyword are parts of it.
use Prim.Native.Nat.{ℕ, ◌+◌, ◌≤◌}
use mathlib.Core.Path.{◌≡◌, ◌∙◌}
use mathlib.Core.Bool.{true, false}
use mathlib.Core.List.{List}
use native.Mathlib.Omega.{arith}
use lib.Dec.{ltb, eqb}
use borrow.Author.Tests.{eq-eqb, ltb-false}
use Rattle.rules.specs.Store.{State, path, root_of, all_cash, all_masters, money_in}
use Rattle.rules.specs.Valid.{Lives, Valid}
use Rattle.rules.proofs.Tests.{pick_yes}
use Rattle.rules.proofs.Climbs.{any_none}
use Rattle.rules.proofs.Forest.{descends-one, master-above, master-top, master-lives}
use Rattle.layout.proofs.Linking.{sum_one}
use Rattle.layout.specs.Rows.{cash_of}
use Rattle.layout.specs.View.{view}
use Rattle.layout.specs.WellFormed.{Plain}
use Rattle.layout.proofs.Shown.{cap-shown}
use Rattle.call_steps.specs.Run.{Process, Held}
use Rattle.call_purse.specs.declared.way.Way.TheVariants.{Out}
use Rattle.call_purse.specs.Climb.{stops, climb_stops}
use Rattle.call_purse.specs.Calls.{Payable, Withdrawable}
use Rattle.call_purse.proofs.Reaching.{cash-is, climbable, stops-is}

-- the master's moneyword and a process's cash
total-part : (s : State) → Valid s → (me k : ℕ) → 1 ≤ me → me ≤ 64 → Lives s.cap k
    → s.cash me + s.money (root_of s k) ≤ 4294967295
unfolding money_in all_cash all_masters
total-part s h me k low high alive =
    let caps = h.formed.caps in
    let m = root_of s k in
    let here = caps.live m (master-lives s caps k alive) in
    let own : ℕ → ℕ = λ i. elim (eqb (s.cap i).parent 0) [ true ↦ s.money i | false ↦ 0 ] in
    let is = pick_yes (eqb (s.cap m).parent 0) (s.money m) 0 (eq-eqb _ 0 (master-top s caps k alive)) in
    omega (arith, sum_one 64 (λ o. s.cash o) me low high, sum_one 512 own m here.some here.low, is, h.total)

module _ (b l w : List ℕ) (g : Plain b l w) (me k : ℕ) (caller : Process b l me) (held : Held l k) where
  pub payable : Payable l w me k
  payable = record {
    climb = climbable b l w g k held;
    low = caller.low;
    high = caller.high;
  }

  room : (sum : ℕ) → climb_stops Out l w k sum ≡ false → cash_of w me + sum ≤ 4294967295
  unfolding stops
  room sum h =
      let s = view b l w in
      let caps = g.valid.formed.caps in
      let alive = cap-shown b l w k held.live in
      let none = any_none (λ i. ltb (s.money i) sum) (path s k) (stops-is b l w g k held Out sum ∙ h)
      (root_of s k) (descends-one s caps k (root_of s k) (master-above s caps k alive)) in
      omega (
        arith,
        ltb-false (s.money (root_of s k)) sum none,
        total-part s g.valid me k caller.low caller.high alive,
        cash-is b l w me caller,
      )

  pub withdrawable : (sum : ℕ) → Withdrawable l w me k sum
  withdrawable sum = record { payable = payable; room = room sum }
