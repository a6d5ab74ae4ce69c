-- The rules' tables in call order, at a call's number: the fees, and the rights asked.
use Prim.Native.Nat.{ℕ, zero, suc}
use mathlib.Core.Path.{◌≡◌, refl, ap}
use mathlib.Core.List.{List, [], ◌∷◌, map}
use lib.ListN.{get_or-map}
use Rattle.rules.specs.Rights.{Op, make_obj, read, write, cap_info, derive_cap, delete_cap, rename_obj, withdraw}
use Rattle.rules.specs.Rights.{deposit, suspend, resume, apply_lock, send, receive, wait, revive, unknown}
use Rattle.rules.specs.Rights.{op, fees, fee_of, asked}
use Rattle.values.specs.Tables.{by_call}
use Rattle.values.specs.declared.rights.Rights.{Rights}

pub fee-by-call : (n : ℕ) → by_call fees n 0 ≡ fee_of n
unfolding fee_of
fee-by-call zero = refl
fee-by-call (suc n) = refl

-- the calls in their order
unfoldable pub ops : List Op
ops = make_obj ∷ read ∷ write ∷ cap_info ∷ derive_cap ∷ delete_cap ∷ rename_obj ∷ withdraw
    ∷ deposit ∷ suspend ∷ resume ∷ apply_lock ∷ send ∷ receive ∷ wait ∷ revive ∷ []

-- for each what the rules ask
unfoldable pub asked_table : List Rights
asked_table = map (λ o. record { 0 = asked o }) ops

pub asked-by-call : (n : ℕ) → (by_call asked_table n (record { 0 = 0 })).0 ≡ asked (op n)
unfolding op asked asked_table ops
asked-by-call zero = refl
asked-by-call (suc n) = ap (λ (r : Rights). r.0) (get_or-map (λ o. let r : Rights = record { 0 = asked o } in r) ops n unknown)
