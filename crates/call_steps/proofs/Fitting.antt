-- The calls by their numbers: which present a capability, and that a number outside 1 to 16 is of none.
use Prim.Native.Nat.{ℕ, zero, suc, ◌-◌, ◌≤◌}
use mathlib.Core.Path.{◌≡◌, refl, ap}
use mathlib.Core.Logic.{◌≢◌}
use mathlib.Core.Bool.{Bool, true, false, not, ◌||◌, and-false}
use mathlib.Core.List.{List, [], ◌∷◌}
use native.Mathlib.Omega.{arith}
use lib.Dec.{eqb, leb}
use native.Mathlib.Decide.{dec_le}
use lib.ListN.{get_or-eq_default}
use borrow.Author.Tests.{leb-true}
use Rattle.rules.specs.Store.{Window}
use Rattle.rules.specs.Rights.{Op, make_obj, read, write, cap_info, derive_cap, delete_cap, rename_obj, withdraw}
use Rattle.rules.specs.Rights.{deposit, suspend, resume, apply_lock, send, receive, wait, revive, unknown}
use Rattle.rules.specs.Rights.{op, asked, presents}
use Rattle.rules.specs.Call.{Call}
use Rattle.rules.specs.Refusals.{name_fits, ordered, transfer_fits, arguments_fit, in_range}
use Rattle.rules.proofs.Tests.{by-eq, all2}

-- a call presents a capability where it asks a right of one
pub asks : (o : Op) → not (eqb (asked o) 0) ≡ presents o
unfolding asked presents
asks make_obj = refl
asks read = refl
asks write = refl
asks cap_info = refl
asks derive_cap = refl
asks delete_cap = refl
asks rename_obj = refl
asks withdraw = refl
asks deposit = refl
asks suspend = refl
asks resume = refl
asks apply_lock = refl
asks send = refl
asks receive = refl
asks wait = refl
asks revive = refl
asks unknown = refl

-- n is none of 1 to k: what is known in the last arm of a `match` by number
abbrev pub NoneTo : ℕ → ℕ → Type 0
NoneTo n zero = Unit {0}
NoneTo n (suc k) = NoneTo n k × (n ≢ suc k)

outside : (n k : ℕ) → NoneTo n k → 1 ≤ n → n ≤ k → ⊥
outside n zero h low high = omega arith
outside n (suc k) h low high = by-eq n (suc k) h.1 (λ ne. outside n k h.0 low (omega arith))

ops : List Op
ops = unknown ∷ make_obj ∷ read ∷ write ∷ cap_info ∷ derive_cap ∷ delete_cap ∷ rename_obj ∷ withdraw
    ∷ deposit ∷ suspend ∷ resume ∷ apply_lock ∷ send ∷ receive ∷ wait ∷ revive ∷ []

past : (n : ℕ) → (1 ≤ n → n ≤ 16 → ⊥) → op n ≡ unknown
unfolding op ops
past n f = by-eq n 0 (λ z. ap op z) (λ nz. get_or-eq_default ops unknown (go (dec_le n 16) nz))
  where
    go : Dec (n ≤ 16) → n ≢ 0 → 17 ≤ n
    go (yes p) nz = absurd (f (omega arith) p)
    go (no p) nz = omega arith

pub op-unknown : (n : ℕ) → NoneTo n 16 → op n ≡ unknown
op-unknown n h = past n (outside n 16 h)

pub unknown-fits : (n : ℕ) (c : Call) → NoneTo n 16 → arguments_fit (op n) c ≡ false
unfolding arguments_fit
unknown-fits n c h = rw (op-unknown n h)

-- a transfer that fits has its ends in order
pub transfer-ordered : (w : Window) → transfer_fits w ≡ true → w.start ≤ w.end
unfolding transfer_fits ordered
transfer-ordered w h =
    leb-true _ _ (all2 (leb w.start w.end) (leb (w.end - w.start) 256) h).0

-- ---- the three parts of `in_range`, in the order in which the code tests them

module _ (c : Call) where
  abbrev presented_fits : Bool
  presented_fits = not (presents (op c.number)) || name_fits c.presented.name

  pub range-caller : name_fits c.caller ≡ false → false ≡ in_range c
  unfolding in_range
  range-caller h = rw h

  pub range-presented : presented_fits ≡ false → false ≡ in_range c
  unfolding in_range
  range-presented h = rw (h, and-false)

  pub range-own : name_fits c.caller ≡ true → presented_fits ≡ true → arguments_fit (op c.number) c ≡ in_range c
  unfolding in_range
  range-own h g = rw (h, g)
