-- No call of a process moves the day, and call 17 keeps it in its range.
use Prim.Native.Nat.{ℕ, ◌≤◌}
use mathlib.Core.Path.{◌≡◌, refl, sym, subst}
use mathlib.Core.List.{List, [], ◌∷◌}
use Rattle.rules.specs.Limit as Limit
use Rattle.rules.specs.Store.{Message, State}
use Rattle.rules.specs.Rights.{Op, make_obj, read, write, cap_info, derive_cap, delete_cap, rename_obj, withdraw}
use Rattle.rules.specs.Rights.{deposit, suspend, resume, apply_lock, send, receive, wait, revive, unknown, op}
use Rattle.rules.specs.Call.{Call, Choice, done, hands_back, hands_over, tells}
use Rattle.rules.specs.Refusals.{caller}
use Rattle.rules.specs.Update.{with_house, with_day, with_bytes, with_lock, with_cash, with_marks, with_box, with_cap, with_money}
use Rattle.rules.specs.Changes.{earn, spend, to_house, set_suspended, set_waiting, set_terminated, on_climb, new_cap}
use Rattle.rules.specs.Changes.{end_where, new_object, end_object}
use Rattle.rules.specs.Calls.{make_obj_does, read_does, write_does, cap_info_does, derive_cap_does, deleted, emptied}
use Rattle.rules.specs.Calls.{rename_obj_does, withdraw_does, deposit_does, suspend_does, resume_does, apply_lock_does}
use Rattle.rules.specs.Calls.{send_does, receive_does, revive_does, does}
use Rattle.rules.specs.Rule.{paid, rule}
use Rattle.rules.proofs.Ready.{slot_of}
use Rattle.rules.proofs.Outcomes.{stopped_by, rule-by, day-by, day-fits}
use Rattle.rules.proofs.Keeping.{wait_by}
use Rattle.rules.proofs.Deleting.{delete-by}

module _ (s : State) (c : Call) (me k : ℕ) (h : Choice) where
  abbrev DayKept : State → Type 0
  DayKept r = r.day ≡ s.day

  received : (l : List Message) → DayKept (receive_does s c me k l).after
  unfolding receive_does done hands_over earn with_cash with_box
  received [] = refl
  received (m ∷ l) = refl

  does-day : (o : Op) → (does s c me k h o).after.day ≡ s.day
  unfolding does make_obj_does read_does write_does cap_info_does derive_cap_does deleted rename_obj_does withdraw_does
      deposit_does suspend_does resume_does apply_lock_does send_does revive_does done hands_back hands_over tells emptied
      end_where earn spend to_house on_climb new_cap new_object end_object with_house with_cash with_money with_cap with_bytes
      with_lock with_box set_suspended set_waiting set_terminated with_marks
  does-day make_obj = refl
  does-day read = refl
  does-day write = refl
  does-day cap_info = refl
  does-day derive_cap = refl
  does-day delete_cap = delete-by s c me k (λ r. DayKept r.after) (λ _. refl) (λ _. refl)
  does-day rename_obj = refl
  does-day withdraw = refl
  does-day deposit = refl
  does-day suspend = refl
  does-day resume = refl
  does-day apply_lock = refl
  does-day send = refl
  does-day receive = received (s.box me)
  does-day wait = wait_by s c me k (λ r. DayKept r.after) (λ _. refl) refl
  does-day revive = refl
  does-day unknown = refl

pub day-step : (s : State) (c : Call) (h : Choice) → s.day ≤ Limit.day → (rule s c h).after.day ≤ Limit.day
unfolding done with_day set_terminated with_marks paid to_house spend with_cash with_house
day-step s c h d = rule-by s c h (λ r. r.after.day ≤ Limit.day)
    (λ _. day-by s c (λ r. r.after.day ≤ Limit.day) (λ _. d) (λ z. (day-fits s c z).0))
    (λ _ _. stopped_by s c (λ (r : State). r.day ≤ Limit.day) (λ _. d) d)
    (λ _ _ _. d)
    (λ _ _ _. subst (λ x. x ≤ Limit.day) (sym (does-day (paid s c) c (caller s c) (slot_of s c) h (op c.number))) d)
