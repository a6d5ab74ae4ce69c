-- What is known where no refusal up to 6 is met: the slices that the fee left, the caller, the capability presented.
use Prim.Native.Nat.{ℕ}
use mathlib.Core.Path.{◌≡◌, refl, sym, ap, ◌∙◌, subst}
use mathlib.Core.Bool.{true}
use mathlib.Core.List.{List}
use native.Mathlib.Omega.{arith}
use Rattle.rules.specs.Store.{State, object_named}
use Rattle.rules.specs.Rights.{op, fee_of}
use Rattle.rules.specs.Call.{Call}
use Rattle.rules.specs.Refusals.{first, in_range, caller, early, presenting}
use Rattle.rules.specs.Update.{with_house, with_cash}
use Rattle.rules.specs.Changes.{spend, to_house}
use Rattle.rules.specs.Rule.{paid}
use Rattle.rules.proofs.Ready.{slot-shown}
use Rattle.rules.proofs.Tests.{by_bool}
use Rattle.layout.specs.View.{view}
use Rattle.layout.specs.WellFormed.{Plain}
use Rattle.call_steps.specs.Paying.{paid_words}
use Rattle.call_steps.proofs.Entering.{early-range, payer-process}
use Rattle.call_steps.proofs.Charging.{paid-view, paid-plain}
use Rattle.call_steps.proofs.Holding.{found-held}
use Rattle.call_enter.specs.declared.entry.Entered.{Entered}
use Rattle.call_enter.specs.Entry.{Entry, refused, shown_slot, shown, entry}
use Rattle.std.specs.Prelude.{Result}
use Rattle.call_enter.specs.declared.entry.Stopped.{Stopped}
use Rattle.call_enter.specs.Enters.{code_told, slots_told, entry_of}
use Rattle.call_enter.specs.Begins.{Begins}
use Rattle.call_enter.proofs.Entering.{slot-some, entry-by}

module _ {b l w : List ℕ} (P : Plain b l w) (c : Call) where
  abbrev s : State
  s = view b l w

  module _ (e : early s c ≡ 0) where
    abbrev me : ℕ
    me = caller s c

    abbrev w' : List ℕ
    w' = paid_words w me (fee_of c.number)

    abbrev k : ℕ
    k = shown_slot (view b l w') me c.presented (op c.number)

    in-range : in_range c ≡ true
    in-range = by_bool (in_range c) (λ h. h) (λ h. absurd (omega (arith, e, early-range s c h)))

    -- the fee changes no name
    paid-caller : caller (paid s c) c ≡ me
    unfolding paid to_house spend with_cash with_house caller object_named
    paid-caller = refl

    pub same-caller : me ≡ caller (view b l w') c
    same-caller = sym (ap (λ t. caller t c) (paid-view b l w P c e) ∙ paid-caller)

    pub begins-paid : first (presenting (view b l w') k (op c.number)) ≡ 0 → Begins b l w' c me k
    begins-paid z = record {
      plain = paid-plain b l w P c e;
      range = in-range;
      process = payer-process b l w P c e;
      who = same-caller;
      held = λ p. found-held b l w' me c.presented k (slot-some (view b l w') me c.presented (op c.number) p)
          (slot-shown (view b l w') k (op c.number) p z);
      found = λ p. slot-some (view b l w') me c.presented (op c.number) p;
    }

  abbrev BeginsOf : Entry → Type 0
  BeginsOf x = x.code ≡ 0 → Begins x.bytes l x.words c x.me x.slot

  entry-begins : BeginsOf (entry b l w c)
  unfolding refused shown
  entry-begins = entry-by b l w c BeginsOf (λ nz z. absurd (nz z)) (λ e z. begins-paid e z)

  -- as the code has it
  pub enter-begins : (r : Result Entered Stopped) (b' w' : List ℕ) → entry_of r b' w' ≡ entry b l w c → code_told r ≡ 0
      → Begins b' l w' c (slots_told r).me (slots_told r).slot
  unfolding entry_of
  enter-begins r _ _ q = subst BeginsOf (sym q) entry-begins
