-- The window question has read's refusals: 2 of the two names, 3, 5, 19 and 6. So a read inside the window that it tells is
-- refused by none but 2, 3 and 4.
use Prim.Native.Nat.{ℕ, ◌≤◌}
use mathlib.Core.Path.{◌≡◌, refl, sym, ◌∙◌}
use mathlib.Core.Logic.{◌≢◌}
use native.Mathlib.Omega.{arith}
use mathlib.Core.Bool.{Bool, true, not, ◌&&◌, and-true, true≢false}
use mathlib.Core.List.{List, [], ◌∷◌, ◌++◌}
use lib.Dec.{ltb, eqb}
use borrow.Author.Tests.{le-ltb, eqb-true}
use Rattle.rules.specs.Code as Code
use Rattle.rules.specs.Store.{Name, State, object_named, cap_lives}
use Rattle.rules.specs.Rights.{READ, op, read, fee_of, asked, presents}
use Rattle.rules.specs.Call.{Capability, Call, Choice, code}
use Rattle.rules.specs.Password.{presented}
use Rattle.rules.specs.Refusals.{Refusal, ◌when◌, first, name_fits, arguments_fit, in_range, caller, running, early, expired, showing}
use Rattle.rules.specs.Refusals.{presenting}
use Rattle.rules.specs.Update.{with_house, with_cash}
use Rattle.rules.specs.Changes.{spend, to_house}
use Rattle.rules.specs.Calls.{lies_in, transfer_refuses, refuses}
use Rattle.rules.specs.Rule.{paid, late, rule}
use Rattle.rules.specs.Questions.{Windowed, shown_slot, window_refuses, unwindowed, windowed_by, window_asked}
use Rattle.rules.specs.Theorems.{read_refuses}
use Rattle.rules.proofs.Tests.{by_bool, pick-by}
use Rattle.rules.proofs.Ready.{slot_of, numbers, none-met, first-in, first-append, early-low, early-fits}
use Rattle.rules.proofs.Outcomes.{host-not, done-out, rule-by}
use Rattle.rules.proofs.Answers.{does-done}

-- ---- the question's answer

module _ (s : State) (caller : Name) (x : Capability) where
  abbrev asks : List Refusal
  asks = window_refuses s caller x

  pub asked-code : (window_asked s caller x).code ≡ first asks
  unfolding window_asked windowed_by unwindowed
  asked-code = pick-by (λ (a : Windowed). a.code ≡ first asks) (eqb (first asks) Code.done) _ _
      (λ e. sym (eqb-true (first asks) Code.done e)) (λ _. refl)

  pub asked-window : (window_asked s caller x).code ≡ Code.done
      → (window_asked s caller x).window ≡ (s.cap (shown_slot s caller x)).window
  unfolding window_asked windowed_by
  asked-window z = rw (sym asked-code ∙ z, windowed_by)

  -- 4 is not among its refusals
  pub asked-free : (window_asked s caller x).code ≢ Code.cannot_pay
  unfolding window_refuses showing ◌when◌ numbers
  asked-free four =
      let f : first asks ≡ Code.cannot_pay = sym asked-code ∙ four in
      true≢false (sym (first-in (λ n. not (eqb n Code.cannot_pay)) asks refl (λ z. omega arith))
      ∙ rw f)

-- ---- a read

module _ (s : State) (c : Call) (is_read : op c.number ≡ read) where
  abbrev k : ℕ
  k = shown_slot s c.caller c.presented

  -- 7, and 5, 19, 6 and 7
  abbrev seven : List Refusal
  seven = Code.outside_window when not (lies_in c.range (s.cap k).window) ∷ []

  abbrev lates : List Refusal
  lates = showing s k READ ++ seven

  -- what the fee leaves has the same capabilities
  late_is : late (paid s c) c (slot_of s c) ≡ first lates
  unfolding late presenting presents asked refuses paid to_house spend with_cash with_house caller object_named presented shown_slot
      cap_lives showing expired transfer_refuses
  late_is = rw is_read refl

  does-read : (h : Choice) → early s c ≡ Code.done → (done-out s c h).answer.code ≡ Code.done
  does-read h z = does-done (paid s c) c (caller s c) (slot_of s c) h (op c.number) (early-fits s c z)

  -- ---- a read that fits, and whose caller can pay

  module _ (fit : arguments_fit read c ≡ true) (pays : fee_of c.number ≤ s.cash (caller s c)) where
    abbrev names : Bool
    names = name_fits c.caller && name_fits c.presented.name

    -- the arguments fit where the two names do
    range-is : in_range c ≡ names
    unfolding in_range presents asked
    range-is = rw (is_read, fit) (and-true names)

    early-is : early s c ≡ first (Code.out_of_range when not names ∷ Code.not_running when not (running s (caller s c)) ∷ [])
    unfolding early first ◌when◌
    early-is = rw (range-is, le-ltb (s.cash (caller s c)) (fee_of c.number) pays)

    module _ (n : names ≡ true) (r : running s (caller s c) ≡ true) where
      early-none : early s c ≡ Code.done
      unfolding first ◌when◌
      early-none = early-is ∙ rw (n, r)

      refuses-late : first (read_refuses s c) ≡ first lates
      unfolding read_refuses window_refuses caller first ◌when◌
      refuses-late = rw (n, r)

    refuses-early : early s c ≢ Code.done → first (read_refuses s c) ≡ early s c
    unfolding read_refuses window_refuses caller first ◌when◌
    refuses-early nz = by_bool names
        (λ n. by_bool (running s (caller s c)) (λ r. absurd (nz (early-none n r))) (λ r. rw (early-is, n, r)))
        (λ n. rw (early-is, n))

    refuses-after : early s c ≡ Code.done → first (read_refuses s c) ≡ first lates
    unfolding first ◌when◌
    refuses-after z = by_bool names
        (λ n. by_bool (running s (caller s c)) (refuses-late n)
        (λ r. absurd (omega (arith, z, rw (n, r) at early-is))))
        (λ n. absurd (omega (arith, z, rw n at early-is)))

    pub read-refused : (h : Choice) → (rule s c h).answer.code ≡ first (read_refuses s c)
    unfolding code
    read-refused h = rule-by s c h (λ o. o.answer.code ≡ first (read_refuses s c))
        (λ e. absurd (host-not c.number e is_read refl))
        (λ _ nz. sym (refuses-early nz))
        (λ _ z nz. late_is ∙ sym (refuses-after z))
        (λ _ z none. does-read h z ∙ sym none ∙ late_is ∙ sym (refuses-after z))

  -- ---- the question is answered, and the range lies in the window that it tells

  module _ (told : (window_asked s c.caller c.presented).code ≡ Code.done)
      (inside : lies_in c.range (window_asked s c.caller c.presented).window ≡ true) where
    lates-none : first lates ≡ Code.done
    unfolding window_refuses showing first ◌when◌ numbers
    lates-none =
        let u = none-met (λ n. ltb 1 n) (asks s c.caller c.presented) refl refl
        (sym (asked-code s c.caller c.presented) ∙ told) in
        first-append (showing s k READ) seven u.1.1 ∙ rw (rw (asked-window s c.caller c.presented told) at inside)

    pub read-inside : (h : Choice) → (rule s c h).answer.code ≢ Code.done → (rule s c h).answer.code ≤ Code.cannot_pay
    unfolding code
    read-inside h = rule-by s c h (λ o. o.answer.code ≢ Code.done → o.answer.code ≤ Code.cannot_pay)
        (λ e. absurd (host-not c.number e is_read refl))
        (λ _ nz _. early-low s c nz)
        (λ _ z nz _. absurd (nz (late_is ∙ lates-none)))
        (λ _ z none nz. absurd (nz (does-read h z)))
