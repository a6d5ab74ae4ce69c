-- The rule of a call on a well-formed store. Of a process's: 2 to 4, the fee, 5, 19 and 6, the call's own refusals, and what
-- is done. Of the host's, call 17: 2 and 20, and the day is set.
use Rattle.std.specs.Prelude.{ℕ, Bool, true, false, List, [], ◌∷◌, ◌++◌, eqb, ltb}
use Rattle.rules.specs.Limit as Limit
use Rattle.rules.specs.Code as Code
use Rattle.rules.specs.Store.{State}
use Rattle.rules.specs.Rights.{op, fee_of, day_number}
use Rattle.rules.specs.Call.{Call, Outcome, Choice, code, done}
use Rattle.rules.specs.Password.{presented}
use Rattle.rules.specs.Refusals.{Refusal, ◌when◌, first, caller, early, presenting}
use Rattle.rules.specs.Update.{with_day}
use Rattle.rules.specs.Changes.{spend, to_house, set_terminated}
use Rattle.rules.specs.Calls.{refuses, does}

-- ---- the sixteen calls of a process

-- what refusals 2, 3 and 4 leave: with 4 the caller becomes terminated, 2 and 3 change nothing
unfoldable pub stopped : State → Call → ℕ → State
stopped s c n = elim (eqb n Code.cannot_pay) [ true ↦ set_terminated s (caller s c) true | false ↦ s ]

-- then the fee goes to the house
unfoldable pub paid : State → Call → State
paid s c = to_house (spend s (caller s c) (fee_of c.number)) (fee_of c.number)

-- 5, 19, 6 and the call's own refusals; s is what the fee left, k the slot of the capability presented
unfoldable pub late : State → Call → ℕ → ℕ
late s c k = first (presenting s k (op c.number) ++ refuses s c (caller s c) k (op c.number))

-- later refusals change no more
unfoldable pub on_paid : State → Call → ℕ → Choice → Outcome
on_paid s c k h = elim (eqb (late s c k) Code.done) [
  | true ↦ does s c (caller s c) k h (op c.number)
  | false ↦ record { answer = code (late s c k); after = s }
]

unfoldable pub process_rule : State → Call → Choice → Outcome
process_rule s c h = elim (eqb (early s c) Code.done) [
  | true ↦ on_paid (paid s c) c (presented (paid s c) (caller s c) c.presented) h
  | false ↦ record { answer = code (early s c); after = stopped s c (early s c) }
]

-- ---- 02, CR 9: "The host sets the day by call 17, which has no caller and no fee"

-- 2, "A day .. above 65,535"; 20, "the new day is before the store's"
unfoldable pub day_refuses : State → ℕ → List Refusal
day_refuses s day = Code.out_of_range when ltb Limit.day day ∷ Code.earlier_day when ltb day s.day ∷ []

unfoldable pub day_rule : State → Call → Outcome
day_rule s c = elim (eqb (first (day_refuses s c.day)) Code.done) [
  | true ↦ done (with_day s c.day)
  | false ↦ record { answer = code (first (day_refuses s c.day)); after = s }
]

-- ---- all calls

unfoldable pub rule : State → Call → Choice → Outcome
rule s c h = elim (eqb c.number day_number) [ true ↦ day_rule s c | false ↦ process_rule s c h ]

unfoldable pub is_done : Outcome → Bool
is_done r = eqb r.answer.code Code.done

-- a theorem that computes with this file's definitions says `unfolding` and this name
unfoldable pub computes : Unit {0}
unfolding stopped paid late on_paid process_rule day_refuses day_rule rule is_done
computes = tt
