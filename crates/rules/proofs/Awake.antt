-- No process with mail sleeps: one that waits has an empty box, after every list of calls.
use Prim.Native.Nat.{ℕ}
use mathlib.Core.Path.{◌≡◌, refl, sym, ◌∙◌}
use mathlib.Core.Bool.{true, false, true≢false}
use mathlib.Core.List.{List, [], ◌∷◌}
use Rattle.rules.specs.Slots.{at}
use Rattle.rules.specs.Store.{Password, Marks, Message, State, fresh}
use Rattle.rules.specs.Rights.{Op, make_obj, read, write, cap_info, derive_cap, delete_cap, rename_obj, withdraw}
use Rattle.rules.specs.Rights.{deposit, suspend, resume, apply_lock, send, receive, wait, revive, unknown, op}
use Rattle.rules.specs.Call.{Call, Choice, done, hands_back, hands_over, tells}
use Rattle.rules.specs.Refusals.{caller}
use Rattle.rules.specs.Update.{with_house, with_day, with_bytes, with_lock, with_cash, with_marks, with_box, with_cap, with_money}
use Rattle.rules.specs.Changes.{earn, spend, to_house, set_suspended, set_waiting, set_terminated, on_climb, new_cap}
use Rattle.rules.specs.Changes.{end_where, new_object, end_object}
use Rattle.rules.specs.Calls.{make_obj_does, read_does, write_does, cap_info_does, derive_cap_does, deleted, emptied}
use Rattle.rules.specs.Calls.{rename_obj_does, withdraw_does, deposit_does, suspend_does, resume_does, apply_lock_does}
use Rattle.rules.specs.Calls.{send_does, receive_does, revive_does, does}
use Rattle.rules.specs.Rule.{paid, rule}
use Rattle.rules.specs.Demand.{Now, Step, next, run}
use Rattle.rules.specs.Theorems.{Awake}
use Rattle.rules.proofs.Slots.{at-by, at_both}
use Rattle.rules.proofs.Ready.{not-waiting, slot_of}
use Rattle.rules.proofs.Outcomes.{stopped_by, rule-by, day-by}
use Rattle.rules.proofs.Keeping.{wait_by}
use Rattle.rules.proofs.Deleting.{delete-by}

-- ---- the marks and the box of one slot change

module _ (s : State) (A : Awake s) (i : ℕ) where
  mark-awake : (m : Marks) → (m.waiting ≡ true → s.box i ≡ []) → Awake (with_marks s (at s.marks i m))
  unfolding Awake with_marks
  mark-awake m h = at-by (λ j (x : Marks). x.waiting ≡ true → s.box j ≡ []) s.marks i m h (λ j _. A j)

  both-awake : (m : Marks) (l : List Message) → m.waiting ≡ false
      → (j : ℕ) → (at s.marks i m j).waiting ≡ true → at s.box i l j ≡ []
  unfolding Awake
  both-awake m l f = at_both (λ j (x : Marks) (y : List Message). x.waiting ≡ true → y ≡ []) s.marks s.box i m l
      (λ e. absurd (true≢false (sym e ∙ f))) (λ j _. A j)

  box-awake : (l : List Message) → (s.marks i).waiting ≡ false → Awake (with_box s (at s.box i l))
  unfolding Awake with_box
  box-awake l f = at-by (λ j (y : List Message). (s.marks j).waiting ≡ true → y ≡ []) s.box i l
      (λ e. absurd (true≢false (sym e ∙ f))) (λ j _. A j)

-- ---- a done call, by a caller that does not wait

module _ (s : State) (A : Awake s) (c : Call) (me k : ℕ) (f : (s.marks me).waiting ≡ false) (h : Choice) where
  received : (l : List Message) → Awake (receive_does s c me k l).after
  unfolding receive_does done hands_over earn with_cash Awake
  received [] = A
  received (m ∷ l) = box-awake s A me l f

  does-awake : (o : Op) → Awake (does s c me k h o).after
  unfolding Awake does make_obj_does read_does write_does cap_info_does derive_cap_does deleted rename_obj_does withdraw_does
      deposit_does suspend_does resume_does apply_lock_does send_does revive_does done hands_back hands_over tells emptied
      end_where earn spend to_house on_climb new_cap new_object end_object with_house with_cash with_money with_cap with_bytes
      with_lock with_box set_suspended set_waiting set_terminated with_marks
  does-awake make_obj = both-awake s A h.object _ [] refl
  does-awake read = A
  does-awake write = A
  does-awake cap_info = A
  does-awake derive_cap = A
  does-awake delete_cap = delete-by s c me k (λ r. Awake r.after)
      (λ _. both-awake s A (s.cap k).object _ [] refl)
      (λ _. A)
  does-awake rename_obj = A
  does-awake withdraw = A
  does-awake deposit = A
  does-awake suspend = mark-awake s A (s.cap k).object _ (A (s.cap k).object)
  does-awake resume = mark-awake s A (s.cap k).object _ (A (s.cap k).object)
  does-awake apply_lock = A
  does-awake send = both-awake s A (s.cap k).object _ _ refl
  does-awake receive = received (s.box me)
  does-awake wait = wait_by s c me k (λ r. Awake r.after) (λ e. mark-awake s A me _ (λ _. e)) A
  does-awake revive = mark-awake s A (s.cap k).object _ (A (s.cap k).object)
  does-awake unknown = A

-- ---- every call, and lists of them

rule-awake : (s : State) (c : Call) (h : Choice) → Awake s → Awake (rule s c h).after
unfolding Awake set_terminated paid to_house spend with_cash with_house done with_day
rule-awake s c h A = rule-by s c h (λ r. Awake r.after)
    (λ _. day-by s c (λ r. Awake r.after) (λ _. A) (λ _. A))
    (λ _ _. stopped_by s c Awake (λ _. mark-awake s A (caller s c) _ (A (caller s c))) A)
    (λ _ _ _. A)
    (λ _ e _. does-awake (paid s c) A c (caller s c) (slot_of s c) (not-waiting s c e) h (op c.number))

pub run-awake : (n : Now) (l : List Step) → Awake n.store → Awake (run n l).store
unfolding run next
run-awake n [] A = A
run-awake n (x ∷ l) A = run-awake (next n x) l (rule-awake n.store x.call x.choice A)

pub awake-fresh : (supply : ℕ) (p : Password) → Awake (fresh supply p)
unfolding Awake fresh
awake-fresh supply p o e = refl
