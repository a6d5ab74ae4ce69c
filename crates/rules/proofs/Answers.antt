-- What a call answers: 0 where it is done, a refusal's number with nothing else, and never by what is taken.
use Prim.Native.Nat.{ℕ}
use mathlib.Core.Path.{◌≡◌, refl, sym, ap, ◌∙◌}
use mathlib.Core.Logic.{◌≢◌}
use mathlib.Core.Bool.{true, false, true≢false, false≢true}
use mathlib.Core.List.{List, [], ◌∷◌}
use native.Mathlib.Omega.{arith}
use lib.Dec.{eqb}
use borrow.Author.Tests.{eq-eqb, ne_eqb}
use Rattle.rules.specs.Store.{Message, State}
use Rattle.rules.specs.Rights.{Op, make_obj, read, write, cap_info, derive_cap, delete_cap, rename_obj, withdraw}
use Rattle.rules.specs.Rights.{deposit, suspend, resume, apply_lock, send, receive, wait, revive, unknown, op}
use Rattle.rules.specs.Rights.{day_number}
use Rattle.rules.specs.Call.{Call, Answer, Outcome, Choice, code, done, hands_back, hands_over, tells}
use Rattle.rules.specs.Refusals.{arguments_fit, caller, early}
use Rattle.rules.specs.Changes.{set_terminated}
use Rattle.rules.specs.Calls.{make_obj_does, read_does, write_does, cap_info_does, derive_cap_does, rename_obj_does}
use Rattle.rules.specs.Calls.{withdraw_does, deposit_does, suspend_does, resume_does, apply_lock_does, send_does}
use Rattle.rules.specs.Calls.{receive_does, revive_does, does}
use Rattle.rules.specs.Rule.{stopped, paid, late, rule, is_done}
use Rattle.rules.specs.Theorems.{Refused}
use Rattle.rules.proofs.Tests.{by-eq, pick_yes, pick-not}
use Rattle.rules.proofs.Ready.{early-low, late-high, slot_of, early-fits}
use Rattle.rules.proofs.Outcomes.{done-out, rule-host, rule-early, rule-late, rule-done, rule-by, day-by, day-not-four}
use Rattle.rules.proofs.Keeping.{wait_by}
use Rattle.rules.proofs.Deleting.{delete-by}

-- ---- the answer of a done call

module _ (s : State) (c : Call) (me k : ℕ) where
  -- it is 0
  pub does-done : (h : Choice) (o : Op) → arguments_fit o c ≡ true → (does s c me k h o).answer.code ≡ 0
  unfolding arguments_fit does make_obj_does read_does write_does cap_info_does derive_cap_does rename_obj_does withdraw_does deposit_does
      suspend_does resume_does apply_lock_does send_does receive_does revive_does done code hands_back hands_over tells
  does-done h make_obj e = refl
  does-done h read e = refl
  does-done h write e = refl
  does-done h cap_info e = refl
  does-done h derive_cap e = refl
  does-done h delete_cap e = delete-by s c me k (λ r. r.answer.code ≡ 0) (λ z. refl) (λ n. refl)
  does-done h rename_obj e = refl
  does-done h withdraw e = refl
  does-done h deposit e = refl
  does-done h suspend e = refl
  does-done h resume e = refl
  does-done h apply_lock e = refl
  does-done h send e = refl
  does-done h receive e = received-done (s.box me)
    where
      received-done : (l : List Message) → (receive_does s c me k l).answer.code ≡ 0
      received-done [] = refl
      received-done (m ∷ l) = refl
  does-done h wait e = wait_by s c me k (λ x. x.answer.code ≡ 0) (λ _. refl) refl
  does-done h revive e = refl
  does-done h unknown e = absurd (false≢true e)

  -- and does not depend on what is taken
  does-fixed : (h g : Choice) (o : Op) → (does s c me k h o).answer ≡ (does s c me k g o).answer
  unfolding does make_obj_does derive_cap_does rename_obj_does hands_back
  does-fixed h g make_obj = refl
  does-fixed h g read = refl
  does-fixed h g write = refl
  does-fixed h g cap_info = refl
  does-fixed h g derive_cap = refl
  does-fixed h g delete_cap = refl
  does-fixed h g rename_obj = refl
  does-fixed h g withdraw = refl
  does-fixed h g deposit = refl
  does-fixed h g suspend = refl
  does-fixed h g resume = refl
  does-fixed h g apply_lock = refl
  does-fixed h g send = refl
  does-fixed h g receive = refl
  does-fixed h g wait = refl
  does-fixed h g revive = refl
  does-fixed h g unknown = refl

-- ---- the answer of an outcome

pub refused-not : (n : ℕ) (r : State) → n ≢ 0 → is_done (record { answer = code n; after = r }) ≡ false
unfolding is_done code
refused-not n r d = ne_eqb n 0 d

pub is-done : (s : State) (c : Call) (h : Choice) → early s c ≡ 0 → is_done (done-out s c h) ≡ true
unfolding is_done
is-done s c h e = eq-eqb _ _ (does-done (paid s c) c (caller s c) (slot_of s c) h (op c.number) (early-fits s c e))

-- where a process's call is done it meets no refusal
pub done-by : (s : State) (c : Call) (h : Choice) (P : Outcome → Type 0)
    → c.number ≢ day_number
    → (early s c ≡ 0 → late (paid s c) c (slot_of s c) ≡ 0 → P (done-out s c h)) → is_done (rule s c h) ≡ true
    → P (rule s c h)
done-by s c h P p f = rule-by s c h (λ r. is_done r ≡ true → P r)
    (λ e. absurd (p e))
    (λ _ n q. absurd (true≢false (sym q ∙ refused-not (early s c) (stopped s c (early s c)) n)))
    (λ _ e n q. absurd (true≢false (sym q ∙ refused-not (late (paid s c) c (slot_of s c)) (paid s c) n)))
    (λ _ a b q. f a b)

-- ---- the rule

pub refused-rule : (s : State) (c : Call) (h : Choice) → is_done (rule s c h) ≡ false → Refused s c (rule s c h)
unfolding code stopped done is_done
refused-rule s c h = rule-by s c h (λ r. is_done r ≡ false → Refused s c r)
    (λ e. day-by s c (λ r. is_done r ≡ false → Refused s c r)
    (λ n q. record {
      others = refl;
      nothing = λ b. refl;
      marks = λ b. absurd (day-not-four s c b);
      fee = λ p. absurd (p e);
      host = λ _. refl;
    })
    (λ z q. absurd (true≢false q)))
    (λ p n q.
    let m : ℕ = early s c in
    let x : State = set_terminated s (caller s c) true in
    record {
      others = refl;
      nothing = λ b. pick-not (eqb m 4) x s (ne_eqb m 4 (λ e. omega arith));
      marks = λ e. pick_yes (eqb m 4) x s (eq-eqb m 4 e);
      fee = λ _ b. absurd (omega (arith, early-low s c n));
      host = λ e. absurd (p e);
    })
    (λ p e n q. record {
      others = refl;
      nothing = λ b. absurd (omega (arith, late-high (paid s c) c (slot_of s c) n));
      marks = λ b. absurd (omega (arith, late-high (paid s c) c (slot_of s c) n));
      fee = λ _ b. refl;
      host = λ e. absurd (p e);
    })
    (λ _ e f q. absurd (true≢false (sym (is-done s c h e) ∙ q)))

pub answer-same : (s : State) (c : Call) (h g : Choice) → (rule s c h).answer ≡ (rule s c g).answer
answer-same s c h g =
    let answer : Outcome → Answer = λ r. r.answer in
    by-eq c.number day_number (λ q. ap answer (rule-host s c h q) ∙ sym (ap answer (rule-host s c g q)))
    (λ p. by-eq (early s c) 0
    (λ e. by-eq (late (paid s c) c (slot_of s c)) 0
    (λ f.
    ap answer (rule-done s c h p e f)
    ∙ does-fixed (paid s c) c (caller s c) (slot_of s c) h g (op c.number)
    ∙ sym (ap answer (rule-done s c g p e f)))
    (λ n. ap answer (rule-late s c h p e n) ∙ sym (ap answer (rule-late s c g p e n))))
    (λ n. ap answer (rule-early s c h p n) ∙ sym (ap answer (rule-early s c g p n))))
