-- The blocks of an object that a call makes were free: only make_obj makes one, and its run takes them from the chain
-- of free blocks.
use Prim.Native.Nat.{ℕ}
use mathlib.Core.Path.{◌≡◌, refl, sym, ap, ◌∙◌, subst}
use mathlib.Core.Bool.{true, false, false≢true}
use mathlib.Core.List.{List, [], ◌∷◌}
use Rattle.rules.specs.Code as Code
use Rattle.rules.specs.Store.{Object, Message, State, no_object}
use Rattle.rules.specs.Rights.{Op, make_obj, read, write, cap_info, derive_cap, delete_cap, rename_obj, withdraw}
use Rattle.rules.specs.Rights.{deposit, suspend, resume, apply_lock, send, receive, wait, revive, unknown, op}
use Rattle.rules.specs.Call.{Call, Choice, Outcome, done, hands_back, hands_over, tells}
use Rattle.rules.specs.Refusals.{caller, early, in_range}
use Rattle.rules.specs.Update.{with_house, with_day, with_cash, with_marks, with_cap, with_money, with_box, with_lock, with_bytes}
use Rattle.rules.specs.Changes.{earn, spend, to_house, set_suspended, set_waiting, set_terminated, on_climb, new_cap}
use Rattle.rules.specs.Changes.{end_where, new_object, end_object}
use Rattle.rules.specs.Calls.{read_does, write_does, cap_info_does, derive_cap_does, deleted, emptied, rename_obj_does}
use Rattle.rules.specs.Calls.{withdraw_does, deposit_does, suspend_does, resume_does, apply_lock_does, send_does, receive_does}
use Rattle.rules.specs.Calls.{revive_does, does}
use Rattle.rules.specs.Rule.{paid, rule}
use Rattle.rules.proofs.Slots.{at-by}
use Rattle.rules.proofs.Ready.{slot_of}
use Rattle.rules.proofs.Outcomes.{host-not, stopped_by, rule-by, day-by}
use Rattle.rules.proofs.Keeping.{wait_by}
use Rattle.rules.proofs.Deleting.{delete-by}
use Rattle.layout.specs.Rows.{master_of}
use Rattle.layout.specs.View.{view}
use Rattle.layout.specs.Shape.{Shape}
use Rattle.layout.specs.WellFormed.{WellFormed}
use Rattle.layout.proofs.Plain.{plain}
use Rattle.layout.proofs.Shown.{set-no, live-is, object-shown}
use Rattle.call_steps.specs.Paying.{terminated_bytes}
use Rattle.call_steps.specs.Run.{Ran, over}
use Rattle.call_enter.proofs.Beginning.{begins-paid}
use Rattle.call_enter.proofs.Meeting.{MeetsRule}
use Rattle.call_enter.proofs.Stepping.{step_by}
use Rattle.call_make.specs.Runs.{NewWereFree}
use Rattle.call_make.proofs.Meets.{arguments-of, make-free}
use Rattle.kernel_step.specs.Own.{own_run}
use Rattle.kernel_step.specs.Run.{step_run}
use Rattle.kernel_step.proofs.Asked.{own-asks}
use Rattle.kernel_step.proofs.Choosing.{run_by}

-- ---- in the rules only make_obj makes an object

module _ (s : State) (c : Call) (me k : ℕ) (h : Choice) (q : ℕ) (z : (s.object q).live ≡ false) where
  none : {A : Type 0} → (s.object q).live ≡ true → A
  none a = absurd (false≢true (sym z ∙ a))

  delete-none : ((does s c me k h delete_cap).after.object q).live ≡ true → ⊥
  unfolding does done deleted end_where with_money with_cap to_house with_house end_object new_object no_object
  delete-none = delete-by s c me k (λ r. (r.after.object q).live ≡ true → ⊥)
      (λ y. at-by (λ j (x : Object). j ≡ q → x.live ≡ true → ⊥) s.object (s.cap k).object no_object
      (λ e a. false≢true a)
      (λ j ne e a. false≢true (sym z ∙ ap (λ i. (s.object i).live) (sym e) ∙ a)) q refl)
      (λ n a. false≢true (sym z ∙ a))

  receive-none : (l : List Message) → ((receive_does s c me k l).after.object q).live ≡ true → ⊥
  unfolding receive_does done hands_over earn with_cash with_box
  receive-none [] a = false≢true (sym z ∙ a)
  receive-none (m ∷ l) a = false≢true (sym z ∙ a)

  does-new : (o : Op) → ((does s c me k h o).after.object q).live ≡ true → o ≡ make_obj
  unfolding does read_does write_does cap_info_does derive_cap_does rename_obj_does withdraw_does deposit_does suspend_does
      resume_does apply_lock_does send_does revive_does done hands_back hands_over tells emptied end_where earn spend
      on_climb new_cap with_cash with_money with_cap with_bytes with_lock with_box set_suspended set_waiting set_terminated
      with_marks
  does-new make_obj a = refl
  does-new read a = none a
  does-new write a = none a
  does-new cap_info a = none a
  does-new derive_cap a = none a
  does-new delete_cap a = absurd (delete-none a)
  does-new rename_obj a = none a
  does-new withdraw a = none a
  does-new deposit a = none a
  does-new suspend a = none a
  does-new resume a = none a
  does-new apply_lock a = none a
  does-new send a = none a
  does-new receive a = absurd (receive-none (s.box me) a)
  does-new wait a = wait_by s c me k (λ x. (x.after.object q).live ≡ true → wait ≡ make_obj) (λ _. none) none a
  does-new revive a = none a
  does-new unknown a = none a

rule-new : (s : State) (c : Call) (h : Choice) (q : ℕ) → (s.object q).live ≡ false
    → ((rule s c h).after.object q).live ≡ true → op c.number ≡ make_obj
unfolding paid to_house spend with_cash with_house set_terminated with_marks done with_day
rule-new s c h q z = rule-by s c h (λ r. (r.after.object q).live ≡ true → op c.number ≡ make_obj)
    (λ _. day-by s c (λ r. (r.after.object q).live ≡ true → op c.number ≡ make_obj)
    (λ _ a. absurd (false≢true (sym z ∙ a)))
    (λ _ a. absurd (false≢true (sym z ∙ a))))
    (λ _ n. stopped_by s c (λ (t : State). (t.object q).live ≡ true → op c.number ≡ make_obj)
    (λ _ a. absurd (false≢true (sym z ∙ a)))
    (λ a. absurd (false≢true (sym z ∙ a))))
    (λ _ e n a. absurd (false≢true (sym z ∙ a)))
    (λ _ e f a. does-new (paid s c) c (caller s c) (slot_of s c) h q z (op c.number) a)

-- ---- the run of make_obj takes free blocks

module _ (b l w : List ℕ) (c : Call) (W : WellFormed b l w) where
  abbrev Free : Ran → Type 0
  Free x = op c.number ≡ make_obj → NewWereFree l x.links

  stays : (n : ℕ) (b' w' : List ℕ) → Free (over n b' l w')
  unfolding over
  stays n b' w' m q z nz = absurd (nz z)

  own-free : (w' : List ℕ) → WellFormed b l w' → in_range c ≡ true → (me k : ℕ)
      → Free (own_run b l w' c me k (op c.number))
  unfolding own_run
  own-free w' F r me k e = subst (λ (o : Op). NewWereFree l (own_run b l w' c me k o).links) (sym e)
      (make-free F c me k (arguments-of c e r))

  step-free : Free (step_run b l w c)
  step-free = run_by b l w c Free (λ e m. absurd (host-not c.number e m refl)) (λ _. step_by own_run l c b w Free
      (λ nz n4. stays (early (view b l w) c) b w)
      (λ e. stays Code.cannot_pay (terminated_bytes b (caller (view b l w) c)) w)
      (λ e nz. stays _ b _)
      (λ e f.
      let B = begins-paid (plain W) c e f in
      own-free _ (own-asks W.shape B).late.formed B.range _ _))

  pub blocks-free : MeetsRule Shape (view b l w) c (step_run b l w c) → NewWereFree l (step_run b l w c).links
  blocks-free m q z nz =
      let x : Ran = step_run b l w c in
      let made = rule-new (view b l w) c m.choice q (live-is b l w q ∙ set-no (master_of l q) z)
      (ap (λ (r : Outcome). (r.after.object q).live) m.rules
      ∙ object-shown x.bytes x.links x.words q nz) in
      step-free made q z nz
