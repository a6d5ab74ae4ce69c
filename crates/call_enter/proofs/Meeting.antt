-- The whole call is what the rules give, for any own part that is: S is what the own part keeps of the links.
use Prim.Native.Nat.{ℕ}
use mathlib.Core.Path.{◌≡◌, refl, sym, ap, ◌∙◌, subst}
use mathlib.Core.Logic.{◌≢◌}
use mathlib.Core.Bool.{true, false, true≢false}
use mathlib.Core.List.{List}
use native.Mathlib.Omega.{arith}
use lib.Dec.{eqb}
use borrow.Author.Tests.{eq-eqb, ne_eqb, eqb-true}
use Rattle.rules.specs.Store.{State, cap_lives, object_named}
use Rattle.rules.specs.Valid.{Valid}
use Rattle.rules.specs.Rights.{Op, make_obj, read, write, cap_info, derive_cap, delete_cap, rename_obj, withdraw}
use Rattle.rules.specs.Rights.{deposit, suspend, resume, apply_lock, send, receive, wait, revive, unknown}
use Rattle.rules.specs.Rights.{op, fee_of, presents, day_number}
use Rattle.rules.specs.Call.{Call, Outcome, Choice, code}
use Rattle.rules.specs.Code as Code
use Rattle.rules.specs.Password.{presented}
use Rattle.rules.specs.Refusals.{first, caller, early, presenting}
use Rattle.rules.specs.Update.{with_house, with_cash, with_cap, with_money}
use Rattle.rules.specs.Changes.{spend, to_house, end_where}
use Rattle.rules.specs.Calls.{make_obj_refuses, make_obj_does, made_object, made_master, receive_refuses, receive_does, wait_does}
use Rattle.rules.specs.Calls.{refuses, does, emptied}
use Rattle.rules.specs.Rule.{stopped, paid, late, on_paid, process_rule, rule, is_done}
use Rattle.rules.specs.Demand.{Words, FreeObject, FreeCap, Open, Allowed}
use Rattle.rules.specs.Theorems.{ValidKept}
use Rattle.rules.proofs.Tests.{by_bool, pick_yes, pick-not}
use Rattle.rules.proofs.Outcomes.{rule-process, rule-early}
use Rattle.rules.proofs.Ready.{presenting-none, late-shown, late-own}
use Rattle.rules.proofs.Theorems.{valid-kept}
use Rattle.layout.specs.View.{view}
use Rattle.layout.specs.WellFormed.{Sized, Cells, Plain}
use Rattle.call_steps.specs.Paying.{terminated_bytes, paid_words}
use Rattle.call_steps.specs.Run.{Ran, over, outcome, own, MeetsWith}
use Rattle.call_steps.proofs.Charging.{paid-view, paid-plain}
use Rattle.call_steps.proofs.Marking.{stopped-view, stopped-plain}
use Rattle.call_steps.proofs.Meeting.{none}
use Rattle.call_enter.specs.Entry.{shown_slot, OwnPart, step_with}
use Rattle.call_enter.specs.Begins.{Begins}
use Rattle.call_enter.proofs.Entering.{slot-some}
use Rattle.call_enter.proofs.Beginning.{same-caller, begins-paid}
use Rattle.call_enter.proofs.Stepping.{step_by}

-- ---- a call that presents nothing looks at no slot k

own_any : (s : State) (c : Call) (me k j : ℕ) (h : Choice) (o : Op) → presents o ≡ false
    → own s c me k h o ≡ own s c me j h o
unfolding presents own refuses does make_obj_refuses make_obj_does made_object made_master receive_refuses receive_does wait_does
own_any s c me k j h make_obj e = refl
own_any s c me k j h read e = absurd (true≢false e)
own_any s c me k j h write e = absurd (true≢false e)
own_any s c me k j h cap_info e = absurd (true≢false e)
own_any s c me k j h derive_cap e = absurd (true≢false e)
own_any s c me k j h delete_cap e = absurd (true≢false e)
own_any s c me k j h rename_obj e = absurd (true≢false e)
own_any s c me k j h withdraw e = absurd (true≢false e)
own_any s c me k j h deposit e = absurd (true≢false e)
own_any s c me k j h suspend e = absurd (true≢false e)
own_any s c me k j h resume e = absurd (true≢false e)
own_any s c me k j h apply_lock e = absurd (true≢false e)
own_any s c me k j h send e = absurd (true≢false e)
own_any s c me k j h receive e = refl
own_any s c me k j h wait e = refl
own_any s c me k j h revive e = absurd (true≢false e)
own_any s c me k j h unknown e = refl

-- ---- after the fee; k is the slot of the capability presented

-- the run x is what the rules give after the fee, for some choice of free slots
record MeetsPaid (S : List ℕ → Type 0) (s : State) (c : Call) (k : ℕ) (x : Ran) : Type 0 where
  choice : Choice
  free : x.answer.code ≡ 0 → Open s c choice
  rules : on_paid s c k choice ≡ outcome x
  sized : Sized x.bytes x.links x.words
  cells : Cells x.bytes x.links
  links : S x.links

module _ (S : List ℕ → Type 0) {b l w : List ℕ} (c : Call) (me : ℕ) (P : Plain b l w) (kept : S l)
    (who : me ≡ caller (view b l w) c) where
  abbrev s : State
  s = view b l w

  abbrev o : Op
  o = op c.number

  abbrev found : ℕ
  found = presented s me c.presented

  -- the slot that the code has
  abbrev k : ℕ
  k = shown_slot s me c.presented o

  same-shows : presenting s k o ≡ presenting s found o
  same-shows = by_bool (presents o)
      (λ p. ap (λ i. presenting s i o) (slot-some s me c.presented o p))
      (λ p. presenting-none s k o p ∙ sym (presenting-none s found o p))

  same-own : (h : Choice) → own s c me found h o ≡ own s c me k h o
  same-own h = by_bool (presents o)
      (λ p. ap (λ i. own s c me i h o) (sym (slot-some s me c.presented o p)))
      (λ p. own_any s c me found k h o p)

  -- 5, 19 or 6
  met-shown : first (presenting s k o) ≢ 0 → MeetsPaid S s c found (over (first (presenting s k o)) b l w)
  unfolding on_paid over code
  met-shown nz =
      let e : late s c found ≡ first (presenting s k o) =
      late-shown s c found (λ z. nz (ap first same-shows ∙ z)) ∙ ap first (sym same-shows) in
      record {
        choice = none;
        free = λ z. absurd (nz z);
        rules = pick-not (eqb (late s c found) 0) _ _ (ne_eqb (late s c found) 0 (λ z. nz (sym e ∙ z)))
            ∙ ap (λ i. record { answer = code i; after = s }) e;
        sized = P.sized;
        cells = P.cells;
        links = kept;
      }

  own_is : (h : Choice) → first (presenting s k o) ≡ 0 → on_paid s c found h ≡ own s c me found h o
  unfolding on_paid own
  own_is h z =
      let q : late s c found ≡ first (refuses s c me found o) =
      late-own s c found (ap first (sym same-shows) ∙ z) ∙ ap (λ i. first (refuses s c i found o)) (sym who) in
      λ d. elim (eqb (q d) 0) [
        | true ↦ does s c (sym who d) found h o
        | false ↦ record { answer = code (q d); after = s }
      ]

  met-own : first (presenting s k o) ≡ 0 → {x : Ran} → MeetsWith S s c me k o x → MeetsPaid S s c found x
  met-own z m = record {
    choice = m.choice;
    free = m.free;
    rules = own_is m.choice z ∙ same-own m.choice ∙ m.rules;
    sized = m.sized;
    cells = m.cells;
    links = m.links;
  }

-- ---- the whole call

-- the run x is what the rules give, for a choice that they allow, and leaves a sound store
pub record MeetsRule (S : List ℕ → Type 0) (s : State) (c : Call) (x : Ran) : Type 0 where
  pub choice : Choice
  pub allowed : Allowed s c choice
  pub rules : rule s c choice ≡ outcome x
  pub sized : Sized x.bytes x.links x.words
  pub cells : Cells x.bytes x.links
  pub links : S x.links
  pub valid : Valid (view x.bytes x.links x.words)

-- well formed by the rules' own theorem
pub met-rule : (S : List ℕ → Type 0) {s : State} {c : Call} → Valid s → Words c → (x : Ran) (h : Choice)
    → (x.answer.code ≡ 0 → Open s c h) → rule s c h ≡ outcome x
    → Sized x.bytes x.links x.words → Cells x.bytes x.links → S x.links
    → MeetsRule S s c x
unfolding is_done ValidKept
met-rule S {s} {c} v words x h free e z cells links =
    let allowed : Allowed s c h = record {
      words = words;
      choice = λ d. free (ap (λ (r : Outcome). r.answer.code) (sym e) ∙ eqb-true _ 0 d);
    } in
    record {
      choice = h;
      allowed = allowed;
      rules = e;
      sized = z;
      cells = cells;
      links = links;
      valid = subst Valid (ap (λ (r : Outcome). r.after) e) (valid-kept s c h v allowed);
    }

-- the fee changes no slot that is asked for
open_kept : (s : State) (c : Call) (h : Choice) → Open (paid s c) c h → Open s c h
unfolding paid to_house spend with_cash with_house FreeObject FreeCap cap_lives emptied end_where with_money with_cap
    presented caller object_named
open_kept s c h q = record { object = q.object; made = q.made; derived = q.derived; renamed = q.renamed }

-- an own part that meets the rules wherever it begins
abbrev pub OwnMeets : (List ℕ → Type 0) → OwnPart → List ℕ → Call → Type 0
OwnMeets S part l c = (b w : List ℕ) (me k : ℕ) → Begins b l w c me k
    → MeetsWith S (view b l w) c me k (op c.number) (part b l w c me k (op c.number))

module _ (S : List ℕ → Type 0) (part : OwnPart) {b l w : List ℕ} (P : Plain b l w) (kept : S l) {c : Call} (words : Words c)
    (process : c.number ≢ day_number) (met : OwnMeets S part l c) where
  abbrev entry : State
  entry = view b l w

  met-early : (b' : List ℕ) → early entry c ≢ 0 → view b' l w ≡ stopped entry c (early entry c) → Plain b' l w
      → MeetsRule S entry c (over (early entry c) b' l w)
  unfolding over code
  met-early b' nz e F = met-rule S P.valid words (over (early entry c) b' l w) none (λ z. absurd (nz z))
      (rule-early entry c none process nz ∙ ap (λ t. record { answer = code (early entry c); after = t }) (sym e))
      F.sized F.cells kept

  -- 2 and 3 change nothing
  met-stays : early entry c ≢ 0 → early entry c ≢ Code.cannot_pay → MeetsRule S entry c (over (early entry c) b l w)
  unfolding stopped
  met-stays nz n4 = met-early b nz
      (sym (pick-not (eqb (early entry c) Code.cannot_pay) _ entry (ne_eqb (early entry c) Code.cannot_pay n4))) P

  -- 4 marks the caller
  met-four : early entry c ≡ Code.cannot_pay
      → MeetsRule S entry c (over Code.cannot_pay (terminated_bytes b (caller entry c)) l w)
  met-four e = subst (λ n. MeetsRule S entry c (over n (terminated_bytes b (caller entry c)) l w)) e
      (met-early (terminated_bytes b (caller entry c)) (λ z. omega arith) (stopped-view b l w P c e)
      (stopped-plain b l w P c e))

  module _ (e : early entry c ≡ 0) where
    abbrev caller-slot : ℕ
    caller-slot = caller entry c

    abbrev paid_w : List ℕ
    paid_w = paid_words w caller-slot (fee_of c.number)

    abbrev shown-slot : ℕ
    shown-slot = shown_slot (view b l paid_w) caller-slot c.presented (op c.number)

    met-paid : {x : Ran}
        → MeetsPaid S (view b l paid_w) c (presented (view b l paid_w) caller-slot c.presented) x
        → MeetsRule S entry c x
    unfolding process_rule
    met-paid {x} m =
        let q = subst (λ t. MeetsPaid S t c (presented t caller-slot c.presented) x) (paid-view b l w P c e) m in
        met-rule S P.valid words x q.choice (λ z. open_kept entry c q.choice (q.free z))
        (rule-process entry c q.choice process ∙ pick_yes (eqb (early entry c) 0) _ _ (eq-eqb (early entry c) 0 e) ∙ q.rules)
        q.sized q.cells q.links

    met-pays : first (presenting (view b l paid_w) shown-slot (op c.number)) ≢ 0
        → MeetsRule S entry c (over (first (presenting (view b l paid_w) shown-slot (op c.number))) b l paid_w)
    met-pays nz = met-paid
        (met-shown S c caller-slot (paid-plain b l w P c e) kept (same-caller P c e) nz)

    met-goes : first (presenting (view b l paid_w) shown-slot (op c.number)) ≡ 0
        → MeetsRule S entry c (part b l paid_w c caller-slot shown-slot (op c.number))
    met-goes z = met-paid
        (met-own S c caller-slot (paid-plain b l w P c e) kept (same-caller P c e) z (met b paid_w caller-slot shown-slot (begins-paid P c e z)))

  pub step-meets : MeetsRule S entry c (step_with part b l w c)
  step-meets = step_by part l c b w (MeetsRule S entry c) met-stays met-four met-pays met-goes
