-- Entering by refusals 2, 3 and 4, in the order in which the code tests them, and where none is met by the fee.
use Prim.Native.Nat.{ℕ}
use mathlib.Core.Path.{◌≡◌, refl, sym, ap, ◌∙◌, subst}
use mathlib.Core.Logic.{◌≢◌}
use mathlib.Core.Bool.{Bool, true, false, not}
use mathlib.Core.List.{List}
use native.Mathlib.Omega.{arith}
use lib.Dec.{ltb, eqb}
use borrow.Author.Tests.{eq-eqb, ne_eqb, ltb-false}
use Rattle.rules.specs.Store.{State}
use Rattle.rules.specs.Rights.{Op, op, fee_of, asked, presents}
use Rattle.rules.specs.Call.{Call, Capability}
use Rattle.rules.specs.Code as Code
use Rattle.rules.specs.Password.{presented}
use Rattle.rules.specs.Refusals.{first, in_range, caller, running, early, showing, presenting}
use Rattle.rules.proofs.Ready.{presenting-some, presenting-none}
use Rattle.rules.proofs.Tests.{by-eq, pick_yes, pick-not}
use Rattle.layout.specs.View.{view}
use Rattle.layout.specs.WellFormed.{Plain}
use Rattle.call_steps.specs.Paying.{terminated_bytes, paid_words, Pays}
use Rattle.call_steps.specs.Run.{Process}
use Rattle.call_steps.proofs.Entering.{early-range, early-running, early-poor, early-none, running-process}
use Rattle.call_steps.proofs.Charging.{poor-is, fee-plain}
use Rattle.std.specs.Prelude.{Err}
use Rattle.values.specs.declared.refusal.Refusal.{Refusal}
use Rattle.values.specs.Refusals.{number_of}
use Rattle.call_enter.specs.declared.entry.Stopped.{Stopped}
use Rattle.call_enter.specs.Enters.{untold, entry_of}
use Rattle.call_enter.specs.Entry.{Entry, refused, shown_slot, shown, stopped_bytes, entered, entry}

-- ---- 5, 19 and 6

module _ (s : State) (me : ℕ) (x : Capability) (o : Op) where
  pub slot-some : presents o ≡ true → shown_slot s me x o ≡ presented s me x
  unfolding shown_slot
  slot-some p = pick_yes (presents o) (presented s me x) 0 p

  pub slot-none : presents o ≡ false → shown_slot s me x o ≡ 0
  unfolding shown_slot
  slot-none p = pick-not (presents o) (presented s me x) 0 p

-- as the code has it: n and k are what `admit` gives
module _ (b l w : List ℕ) (me : ℕ) (x : Capability) (o : Op) where
  pub shown-some : presents o ≡ true → (n k : ℕ) → k ≡ presented (view b l w) me x
      → n ≡ first (showing (view b l w) (presented (view b l w) me x) (asked o))
      → record { code = n; me = me; slot = k; bytes = b; words = w } ≡ shown b l w me x o
  unfolding shown
  shown-some p n k e h =
      let s : State = view b l w in
      let slot : shown_slot s me x o ≡ presented s me x = slot-some s me x o p in
      let code : n ≡ first (presenting s (shown_slot s me x o) o) =
      h ∙ ap first (sym (presenting-some s (presented s me x) o p)) ∙ ap (λ i. first (presenting s i o)) (sym slot) in
      λ d. record { code = code d; me = me; slot = (e ∙ sym slot) d; bytes = b; words = w }

  pub shown-none : presents o ≡ false
      → record { code = Code.done; me = me; slot = 0; bytes = b; words = w } ≡ shown b l w me x o
  unfolding shown first
  shown-none p =
      let s : State = view b l w in
      λ d. record {
        code = ap first (sym (presenting-none s (shown_slot s me x o) o p)) d;
        me = me;
        slot = sym (slot-none s me x o p) d;
        bytes = b;
        words = w;
      }

-- 2, 3 or 4
pub told-refused : (r : Refusal) {x : Stopped} → x ≡ untold r → (b w : List ℕ) → entry_of (Err x) b w ≡ refused (number_of r) b w
unfolding entry_of refused
told-refused r e b w = ap (λ x. entry_of (Err x) b w) e

-- ---- by what 2, 3 and 4 come to

module _ (b l w : List ℕ) (c : Call) where
  abbrev s : State
  s = view b l w

  abbrev me : ℕ
  me = caller s c

  abbrev paid_entry : Entry
  paid_entry = shown b l (paid_words w me (fee_of c.number)) me c.presented (op c.number)

  abbrev stop_entry : ℕ → Entry
  stop_entry n = refused n (stopped_bytes n b me) w

  pub entry-stops : (n : ℕ) → early s c ≡ n → n ≢ 0 → stop_entry n ≡ entry b l w c
  unfolding entry entered
  entry-stops n e nz = ap stop_entry (sym e)
      ∙ sym (pick-not (eqb (early s c) 0) paid_entry (stop_entry (early s c)) (ne_eqb (early s c) 0 (λ z. nz (sym e ∙ z))))

  pub entry-pays : early s c ≡ 0 → paid_entry ≡ entry b l w c
  unfolding entry entered
  entry-pays e = sym (pick_yes (eqb (early s c) 0) paid_entry (stop_entry (early s c)) (eq-eqb (early s c) 0 e))

  pub entry-by : (P : Entry → Type 0) → (early s c ≢ 0 → P (stop_entry (early s c))) → (early s c ≡ 0 → P paid_entry)
      → P (entry b l w c)
  entry-by P f g = by-eq (early s c) 0
      (λ z. subst P (entry-pays z) (g z))
      (λ nz. subst P (entry-stops (early s c) refl nz) (f nz))

-- ---- what the code knows at each of its ends

pub enter-two : (b l w : List ℕ) (c : Call) → in_range c ≡ false → refused Code.out_of_range b w ≡ entry b l w c
unfolding stopped_bytes
enter-two b l w c h = entry-stops b l w c Code.out_of_range (early-range (view b l w) c h) (λ z. omega arith)

module _ (b l w : List ℕ) (c : Call) (o : ℕ) (fits : in_range c ≡ true) (found : o ≡ caller (view b l w) c) where
  pub enter-three : running (view b l w) o ≡ false → refused Code.not_running b w ≡ entry b l w c
  unfolding stopped_bytes
  enter-three h = entry-stops b l w c Code.not_running
      (early-running (view b l w) c fits (ap (running (view b l w)) (sym found) ∙ h)) (λ z. omega arith)

  module _ (runs : running (view b l w) o ≡ true) where
    payer : Process b l o
    payer = running-process b l w o runs

    runs-caller : running (view b l w) (caller (view b l w) c) ≡ true
    runs-caller = ap (running (view b l w)) (sym found) ∙ runs

    module _ (fee : ℕ) (priced : fee ≡ fee_of c.number) {r : Bool} {b' w' : List ℕ} (Q : Pays b w o fee r b' w') where
      P : Pays b w o (fee_of c.number) r b' w'
      P = subst (λ n. Pays b w o n r b' w') priced Q

      poor : ltb ((view b l w).cash (caller (view b l w) c)) (fee_of c.number) ≡ not r
      poor = ap (λ i. ltb ((view b l w).cash i) (fee_of c.number)) (sym found)
          ∙ poor-is b l w o payer (fee_of c.number) r P.enough

      pub enter-four : r ≡ false → refused Code.cannot_pay b' w' ≡ entry b l w c
      unfolding stopped_bytes
      enter-four e =
          (λ d. refused Code.cannot_pay (bytes-are d) (words_are d))
          ∙ entry-stops b l w c Code.cannot_pay (early-poor (view b l w) c fits runs-caller (poor ∙ ap not e))
          (λ z. omega arith)
        where
          bytes-are : b' ≡ terminated_bytes b (caller (view b l w) c)
          bytes-are = P.bytes ∙ pick-not r b (terminated_bytes b o) e ∙ ap (terminated_bytes b) found

          words_are : w' ≡ w
          words_are = P.words ∙ pick-not r (paid_words w o (fee_of c.number)) w e

      module _ (e : r ≡ true) where
        goes : early (view b l w) c ≡ 0
        goes = early-none (view b l w) c fits runs-caller (poor ∙ ap not e)

        bytes-are : b' ≡ b
        bytes-are = P.bytes ∙ pick_yes r b (terminated_bytes b o) e

        words_are : w' ≡ paid_words w (caller (view b l w) c) (fee_of c.number)
        words_are = P.words ∙ pick_yes r (paid_words w o (fee_of c.number)) w e
            ∙ ap (λ i. paid_words w i (fee_of c.number)) found

        pub enter-paid : shown b' l w' o c.presented (op c.number) ≡ entry b l w c
        enter-paid = (λ d. shown (bytes-are d) l (words_are d) (found d) c.presented (op c.number))
            ∙ entry-pays b l w c goes

-- and after the fee
module _ (b l w : List ℕ) (o : ℕ) (process : Process b l o) (fee : ℕ) {r : Bool} {b' w' : List ℕ}
    (Q : Pays b w o fee r b' w') (e : r ≡ true) where
  same_bytes : b' ≡ b
  same_bytes = Q.bytes ∙ pick_yes r b (terminated_bytes b o) e

  fee-taken : w' ≡ paid_words w o fee
  fee-taken = Q.words ∙ pick_yes r (paid_words w o fee) w e

  pub payer-paid : Process b' l o
  payer-paid = subst (λ x. Process x l o) (sym same_bytes) process

  pub plain-paid : Plain b l w → Plain b' l w'
  plain-paid W = subst (λ x. Plain x l w') (sym same_bytes)
      (subst (λ x. Plain b l x) (sym fee-taken)
      (fee-plain b l w W o fee process (ltb-false _ _ (poor-is b l w o process fee r Q.enough ∙ ap not e))))
