-- The whole call by its outcomes, for any own part: refused by 2 or 3, by 4, by 5, 19 or 6, and the own part.
use Prim.Native.Nat.{ℕ}
use mathlib.Core.Path.{◌≡◌, refl, sym, ap, ◌∙◌, subst}
use mathlib.Core.Logic.{◌≢◌}
use mathlib.Core.Bool.{false}
use mathlib.Core.List.{List}
use native.Mathlib.Omega.{arith}
use lib.Dec.{eqb}
use borrow.Author.Tests.{eq-eqb, ne_eqb}
use Rattle.rules.specs.Store.{State}
use Rattle.rules.specs.Rights.{Op, op, fee_of}
use Rattle.rules.specs.Call.{Call}
use Rattle.rules.specs.Code as Code
use Rattle.rules.specs.Refusals.{first, in_range, caller, early, presenting}
use Rattle.rules.proofs.Tests.{by-eq, pick_yes, pick-not}
use Rattle.layout.specs.View.{view}
use Rattle.call_steps.specs.Paying.{terminated_bytes, paid_words}
use Rattle.call_steps.specs.Run.{Ran, over}
use Rattle.call_steps.proofs.Meeting as Settled
use Rattle.call_enter.specs.declared.entry.Entered.{Entered}
use Rattle.call_enter.specs.Entry.{Entry, refused, shown_slot, shown, stopped_bytes, entry, OwnPart, goes_on_with, step_with}
use Rattle.std.specs.Prelude.{Result}
use Rattle.call_enter.specs.declared.entry.Stopped.{Stopped}
use Rattle.call_enter.specs.Enters.{code_told, slots_told, entry_of}
use Rattle.call_enter.proofs.Entering.{entry-by, enter-two}

module _ (own : OwnPart) (l : List ℕ) (c : Call) where
  -- ---- after entering

  abbrev own_of : Entry → Ran
  own_of e = own e.bytes l e.words c e.me e.slot (op c.number)

  stops : (e : Entry) → e.code ≢ 0 → over e.code e.bytes l e.words ≡ goes_on_with own l c e
  unfolding goes_on_with
  stops e nz = Settled.stopped e.bytes l e.words (own_of e) e.code refl nz

  begins : (e : Entry) → e.code ≡ 0 → own_of e ≡ goes_on_with own l c e
  unfolding goes_on_with
  begins e z = Settled.goes_on e.bytes l e.words (own_of e) z

  -- as the code has it
  module _ (b w : List ℕ) (r : Result Entered Stopped) (b' w' : List ℕ) (q : entry_of r b' w' ≡ entry b l w c) where
    pub step-stops : code_told r ≢ 0 → over (code_told r) b' l w' ≡ step_with own b l w c
    unfolding entry_of step_with
    step-stops nz = stops (entry_of r b' w') nz ∙ ap (goes_on_with own l c) q

    pub step-begins : code_told r ≡ 0
        → own b' l w' c (slots_told r).me (slots_told r).slot (op c.number) ≡ step_with own b l w c
    unfolding entry_of step_with
    step-begins z = begins (entry_of r b' w') z ∙ ap (goes_on_with own l c) q

  -- ---- the whole

  module _ (b w : List ℕ) where
    abbrev s : State
    s = view b l w

    abbrev me : ℕ
    me = caller s c

    abbrev w' : List ℕ
    w' = paid_words w me (fee_of c.number)

    abbrev o : Op
    o = op c.number

    abbrev k : ℕ
    k = shown_slot (view b l w') me c.presented o

    abbrev five-six : ℕ
    five-six = first (presenting (view b l w') k o)

    module _ (P : Ran → Type 0)
        (stays : early s c ≢ 0 → early s c ≢ Code.cannot_pay → P (over (early s c) b l w))
        (marks : early s c ≡ Code.cannot_pay → P (over Code.cannot_pay (terminated_bytes b me) l w))
        (pays : early s c ≡ 0 → five-six ≢ 0 → P (over five-six b l w'))
        (goes : early s c ≡ 0 → five-six ≡ 0 → P (own b l w' c me k o)) where
      abbrev n : ℕ
      n = early s c

      -- 2, 3 or 4
      before : n ≢ 0 → P (over n (stopped_bytes n b me) l w)
      unfolding stopped_bytes
      before nz = by-eq n Code.cannot_pay
          (λ q. subst P
          (λ d. over (sym q d) (sym (pick_yes (eqb n Code.cannot_pay) (terminated_bytes b me) b (eq-eqb n Code.cannot_pay q)) d) l w)
          (marks q))
          (λ n4. subst P
          (λ d. over n (sym (pick-not (eqb n Code.cannot_pay) (terminated_bytes b me) b (ne_eqb n Code.cannot_pay n4)) d) l w)
          (stays nz n4))

      pub step_by : P (step_with own b l w c)
      unfolding step_with refused shown
      step_by = entry-by b l w c (λ e. P (goes_on_with own l c e))
          (λ nz. subst P (stops (refused n (stopped_bytes n b me) w) nz) (before nz))
          (λ z. by-eq five-six 0
          (λ f. subst P (begins (shown b l w' me c.presented o) f) (goes z f))
          (λ nz. subst P (stops (shown b l w' me c.presented o) nz) (pays z nz)))

  -- a call out of range changes nothing
  pub two_run : (b w : List ℕ) → in_range c ≡ false → over Code.out_of_range b l w ≡ step_with own b l w c
  unfolding step_with refused
  two_run b w h = stops (refused Code.out_of_range b w) (λ z. omega arith) ∙ ap (goes_on_with own l c) (enter-two b l w c h)
