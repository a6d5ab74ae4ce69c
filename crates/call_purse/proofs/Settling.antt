-- What a call's tests make of its code, and its code of its run.
use Prim.Native.Nat.{ℕ}
use mathlib.Core.Path.{◌≡◌, ap, ◌∙◌}
use mathlib.Core.Logic.{◌≢◌}
use mathlib.Core.Bool.{true, false}
use mathlib.Core.List.{List}
use lib.Dec.{ltb}
use Rattle.rules.specs.Refusals.{◌when◌, first}
use Rattle.layout.specs.Rows.{cash_of}
use Rattle.call_purse.specs.declared.way.Way.TheVariants.{Out, Into}
use Rattle.call_purse.specs.Climb.{climb_stops}
use Rattle.call_steps.specs.Run.{over, settled}
use Rattle.call_steps.proofs.Meeting.{stopped, goes_on}
use Rattle.call_purse.specs.Calls.{withdraw_code, deposit_code}

-- ---- the run, where the words alone change: n is the code, after the words of a done call

module _ {n : ℕ} (l w after : List ℕ) where
  pub refused : (m : ℕ) → n ≡ m → m ≢ 0 → (b : List ℕ) → over m b l w ≡ settled n b l w (over 0 b l after)
  refused m e nz b = stopped b l w (over 0 b l after) m e nz

  pub done-with : (exit : List ℕ) → exit ≡ after → n ≡ 0 → (b : List ℕ)
      → over 0 b l exit ≡ settled n b l w (over 0 b l after)
  done-with exit e z b = ap (over 0 b l) e ∙ goes_on b l w (over 0 b l after) z

-- ---- the codes

module _ (l w : List ℕ) (k sum : ℕ) where
  pub withdraw-short : climb_stops Out l w k sum ≡ true → withdraw_code l w k sum ≡ 9
  unfolding withdraw_code first ◌when◌
  withdraw-short h = rw (h, first)

  pub withdraw-free : climb_stops Out l w k sum ≡ false → withdraw_code l w k sum ≡ 0
  unfolding withdraw_code first ◌when◌
  withdraw-free h = rw (h, first)

module _ (l w : List ℕ) (me k sum : ℕ) where
  pub deposit-short : ltb (cash_of w me) sum ≡ true → deposit_code l w me k sum ≡ 9
  unfolding deposit_code first ◌when◌
  deposit-short h = rw (h, first)

  pub deposit-full : ltb (cash_of w me) sum ≡ false → climb_stops Into l w k sum ≡ true → deposit_code l w me k sum ≡ 10
  unfolding deposit_code first ◌when◌
  deposit-full p h = rw (p, h, first)

  pub deposit-free : ltb (cash_of w me) sum ≡ false → climb_stops Into l w k sum ≡ false → deposit_code l w me k sum ≡ 0
  unfolding deposit_code first ◌when◌
  deposit-free p h = rw (p, h, first)
