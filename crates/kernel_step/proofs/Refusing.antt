-- What a refused call leaves of the store's slices: a run that refuses after the fee changes no more.
use Prim.Native.Nat.{ℕ, ◌<◌}
use mathlib.Core.Path.{◌≡◌, refl, sym, ◌∙◌, subst}
use mathlib.Core.Logic.{◌≢◌}
use mathlib.Core.List.{List, []}
use native.Mathlib.Omega.{arith}
use lib.Dec.{eqb}
use borrow.Author.Tests.{eqb-true}
use Rattle.rules.specs.Store.{State}
use Rattle.rules.specs.Rights.{Op, make_obj, read, write, cap_info, derive_cap, delete_cap, rename_obj, withdraw}
use Rattle.rules.specs.Rights.{deposit, suspend, resume, apply_lock, send, receive, wait, revive, unknown}
use Rattle.rules.specs.Rights.{op, fee_of, day_number}
use Rattle.rules.specs.Call.{Call, Choice, code, hands_back, hands_over, tells}
use Rattle.rules.specs.Code as Code
use Rattle.rules.specs.Refusals.{first, caller, early, presenting}
use Rattle.rules.specs.Rule.{paid, day_refuses, rule, is_done}
use Rattle.rules.proofs.Tests.{by-eq, pick-by}
use Rattle.rules.proofs.Ready.{early-low, late-high, slot_of}
use Rattle.rules.proofs.Answers.{is-done}
use Rattle.rules.proofs.Outcomes.{rule-by, day-not-four}
use Rattle.layout.specs.Rows.{parent_of}
use Rattle.layout.specs.View.{view}
use Rattle.call_steps.specs.Paying.{paid_words}
use Rattle.call_steps.specs.Run.{Ran, over, handed_over, settled}
use Rattle.call_steps.proofs.Meeting.{stopped, goes_on}
use Rattle.call_enter.specs.Entry.{shown_slot, OwnPart, step_with}
use Rattle.call_enter.proofs.Stepping.{step_by}
use Rattle.call_marks.specs.Runs.{suspended_run, lock_run, wait_run, revive_run, info_run, told}
use Rattle.call_purse.specs.Calls.{withdraw_run, deposit_run}
use Rattle.call_transfer.specs.Runs.{read_run, write_run}
use Rattle.call_mail.specs.Runs.{send_run, receive_run}
use Rattle.call_make.specs.Runs.{make_run, made}
use Rattle.call_derive.specs.Runs.{derive_run, derived}
use Rattle.call_delete.specs.Runs.{delete_run}
use Rattle.call_rename.specs.Runs.{rename_run, renamed}
use Rattle.kernel_step.specs.Slices.{Slices, slices, Store, state_of}
use Rattle.call_day.specs.Runs.{day_run}
use Rattle.kernel_step.specs.Own.{own_run}
use Rattle.kernel_step.specs.Run.{step_run}
use Rattle.kernel_step.specs.Steps.{RefusalLeaves}
use Rattle.kernel_step.proofs.Choosing.{run_by}

-- the run leaves these slices
abbrev pub Leaves : List ℕ → List ℕ → List ℕ → Ran → Type 0
Leaves b l w x = Store (slices x.bytes x.links x.words [] []) b l w

-- where it is refused
abbrev pub Refusing : List ℕ → List ℕ → List ℕ → Ran → Type 0
Refusing b l w x = x.answer.code ≢ 0 → Leaves b l w x

module _ (b l w : List ℕ) where
  over-leaves : (n : ℕ) → Leaves b l w (over n b l w)
  unfolding over
  over-leaves n = record { bytes = refl; links = refl; words = refl }

  -- x is a done call's run
  settled-leaves : (n : ℕ) (x : Ran) → x.answer.code ≡ 0 → Refusing b l w (settled n b l w x)
  settled-leaves n x done = by-eq n 0
      (λ z. subst (Refusing b l w) (goes_on b l w x z) (λ nz. absurd (nz done)))
      (λ nz. subst (Refusing b l w) (stopped b l w x n refl nz) (λ _. over-leaves n))

  pub own-leaves : (c : Call) (me k : ℕ) (o : Op) → Refusing b l w (own_run b l w c me k o)
  unfolding own_run suspended_run lock_run wait_run revive_run info_run told tells read_run write_run handed_over hands_over send_run
      receive_run withdraw_run deposit_run make_run made derive_run derived delete_run rename_run renamed hands_back over code
  own-leaves c me k make_obj = settled-leaves _ _ refl
  own-leaves c me k read = settled-leaves _ _ refl
  own-leaves c me k write = settled-leaves _ _ refl
  own-leaves c me k cap_info = λ nz. absurd (nz refl)
  own-leaves c me k derive_cap = settled-leaves _ _ refl
  own-leaves c me k delete_cap =
      pick-by (Refusing b l w) (eqb (parent_of l k) 0) _ _ (λ _ nz. absurd (nz refl)) (λ _ nz. absurd (nz refl))
  own-leaves c me k rename_obj = settled-leaves _ _ refl
  own-leaves c me k withdraw = settled-leaves _ _ refl
  own-leaves c me k deposit = settled-leaves _ _ refl
  own-leaves c me k suspend = settled-leaves _ _ refl
  own-leaves c me k resume = settled-leaves _ _ refl
  own-leaves c me k apply_lock = settled-leaves _ _ refl
  own-leaves c me k send = settled-leaves _ _ refl
  own-leaves c me k receive = settled-leaves _ _ refl
  own-leaves c me k wait = λ nz. absurd (nz refl)
  own-leaves c me k revive = settled-leaves _ _ refl
  own-leaves c me k unknown = λ _. over-leaves Code.out_of_range

-- ---- by the code that the rules answer

-- after the fee a refusal's number is above 4
late-code : (s : State) (c : Call) (h : Choice) → c.number ≢ day_number → early s c ≡ 0 → (rule s c h).answer.code ≢ 0
    → 4 < (rule s c h).answer.code
unfolding code is_done
late-code s c h p z = rule-by s c h (λ r. r.answer.code ≢ 0 → 4 < r.answer.code)
    (λ e. absurd (p e))
    (λ _ nz. absurd (nz z))
    (λ _ _ nz _. late-high (paid s c) c (slot_of s c) nz)
    (λ _ e _ nz. absurd (nz (eqb-true _ 0 (is-done s c h e))))

-- an own part that leaves the slices where it refuses
abbrev pub OwnLeaves : OwnPart → Type 0
OwnLeaves own = (b l w : List ℕ) (c : Call) (me k : ℕ) (o : Op) → Refusing b l w (own b l w c me k o)

-- the buffer and the scratch are not spoken of
module _ (own : OwnPart) (leaves : OwnLeaves own) (was : Slices) (c : Call) (process : c.number ≢ day_number) (h : Choice)
    (buffer scratch : List ℕ) where
  abbrev s : State
  s = state_of was

  abbrev w' : List ℕ
  w' = paid_words was.words (caller s c) (fee_of c.number)

  abbrev k : ℕ
  k = shown_slot (view was.bytes was.links w') (caller s c) c.presented (op c.number)

  abbrev Left : Ran → Type 0
  Left x = (rule s c h).answer.code ≡ x.answer.code
      → RefusalLeaves c x.answer.code was (slices x.bytes x.links x.words buffer scratch)

  -- after the fee
  paid-left : (x : Ran) → early s c ≡ 0 → Refusing was.bytes was.links w' x → Left x
  paid-left x e stays q =
      let high : x.answer.code ≢ 0 → 4 < x.answer.code =
      λ nz. subst (λ n. 4 < n) q (late-code s c h process e (λ z. nz (sym q ∙ z))) in
      record {
        nothing = λ some low. absurd (omega (arith, high (λ z. omega arith)));
        marks = λ four. absurd (omega (arith, high (λ z. omega arith)));
        fee = λ _ many.
            let same = stays (λ z. omega arith) in
            record { bytes = same.bytes; links = same.links; words = same.words };
        host = λ e. absurd (process e);
      }

  pub step-leaves : Left (step_with own was.bytes was.links was.words c)
  unfolding over code
  step-leaves = step_by own was.links c was.bytes was.words Left
      (λ nz n4 _. record {
        nothing = λ _ _. record { bytes = refl; links = refl; words = refl };
        marks = λ e. absurd (n4 e);
        fee = λ _ high. absurd (omega (arith, early-low s c nz));
        host = λ e. absurd (process e);
      })
      (λ e _. record {
        nothing = λ _ low. absurd (omega arith);
        marks = λ _. record { bytes = refl; links = refl; words = refl };
        fee = λ _ high. absurd (omega arith);
        host = λ e. absurd (process e);
      })
      (λ e nz.
      let n : ℕ = first (presenting (view was.bytes was.links w') k (op c.number)) in
      paid-left (over n was.bytes was.links w') e (λ _. over-leaves was.bytes was.links w' n))
      (λ e z. paid-left (own was.bytes was.links w' c (caller s c) k (op c.number)) e
      (leaves was.bytes was.links w' c (caller s c) k (op c.number)))

-- ---- call 17, and any call

module _ (was : Slices) (c : Call) (buffer scratch : List ℕ) where
  abbrev RunLeaves : Ran → Type 0
  RunLeaves x = RefusalLeaves c x.answer.code was (slices x.bytes x.links x.words buffer scratch)

  day-leaves : c.number ≡ day_number → RunLeaves (day_run was.bytes was.links was.words c.day)
  unfolding day_run over code
  day-leaves host =
      let s : State = state_of was in
      let n : ℕ = first (day_refuses s c.day) in
      by-eq n Code.done
      (λ e. subst RunLeaves (goes_on was.bytes was.links was.words _ e) (record {
        nothing = λ some low. absurd (omega arith);
        marks = λ four. absurd (omega arith);
        fee = λ p. absurd (p host);
        host = λ _ high. absurd (omega arith);
      }))
      (λ nz. subst RunLeaves (stopped was.bytes was.links was.words _ n refl nz) (record {
        nothing = λ _ _. record { bytes = refl; links = refl; words = refl };
        marks = λ four. absurd (day-not-four s c four);
        fee = λ p. absurd (p host);
        host = λ _ _. record { bytes = refl; links = refl; words = refl };
      }))

  pub run-leaves : (h : Choice) → (rule (state_of was) c h).answer.code ≡ (step_run was.bytes was.links was.words c).answer.code
      → RunLeaves (step_run was.bytes was.links was.words c)
  run-leaves h = run_by was.bytes was.links was.words c
      (λ x. (rule (state_of was) c h).answer.code ≡ x.answer.code → RunLeaves x)
      (λ e _. day-leaves e)
      (λ p. step-leaves own_run own-leaves was c p h buffer scratch)
