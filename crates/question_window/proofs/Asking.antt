-- The window question's refusals in the order in which the code tests them, and the window where none is met.
use Prim.Native.Nat.{ℕ}
use mathlib.Core.Path.{◌≡◌, sym, ap, ◌∙◌}
use mathlib.Core.Logic.{◌≢◌}
use mathlib.Core.Bool.{true, false, ◌&&◌}
use native.Mathlib.Omega.{arith}
use borrow.Author.Tests.{ne_eqb}
use Rattle.rules.specs.Code as Code
use Rattle.rules.specs.Store as Store
use Rattle.rules.specs.Store.{State, object_named}
use Rattle.rules.specs.Rights.{READ}
use Rattle.rules.specs.Call as Call
use Rattle.rules.specs.Password.{presented}
use Rattle.rules.specs.Refusals.{◌when◌, first, name_fits, running, showing}
use Rattle.rules.specs.Questions.{shown_slot, window_refuses, unwindowed, windowed_by, window_asked}
use Rattle.call_steps.proofs.Admitting.{showing-none}

module _ (s : State) (caller : Store.Name) (x : Call.Capability) where
  asked-refused : (n : ℕ) → first (window_refuses s caller x) ≡ n → n ≢ Code.done → window_asked s caller x ≡ unwindowed n
  unfolding window_asked windowed_by
  asked-refused n e nz = rw e (rw (ne_eqb n Code.done nz, windowed_by))

  pub asked-two : (name_fits caller && name_fits x.name) ≡ false → window_asked s caller x ≡ unwindowed Code.out_of_range
  unfolding window_refuses first ◌when◌
  asked-two h = asked-refused Code.out_of_range (rw h) (λ z. omega arith)

  module _ (fit : (name_fits caller && name_fits x.name) ≡ true) (me : ℕ) (who : me ≡ object_named s caller) where
    pub asked-three : running s me ≡ false → window_asked s caller x ≡ unwindowed Code.not_running
    unfolding window_refuses first ◌when◌
    asked-three h = asked-refused Code.not_running (rw (fit, ← who, h)) (λ z. omega arith)

    -- n is what 5, 19 and 6 come to
    module _ (runs : running s me ≡ true) (n : ℕ) (shows : n ≡ first (showing s (presented s me x) READ)) where
      refuses-late : first (window_refuses s caller x) ≡ n
      unfolding window_refuses shown_slot first ◌when◌
      refuses-late = rw (fit, ← who, runs) (sym shows)

      pub asked-late : n ≢ Code.done → window_asked s caller x ≡ unwindowed n
      asked-late = asked-refused n refuses-late

      module _ (none : n ≡ Code.done) (k : ℕ) (slot : k ≡ presented s me x) where
        pub asked-done : window_asked s caller x ≡ record { code = Code.done; window = (s.cap k).window }
        unfolding window_asked windowed_by shown_slot
        asked-done = rw (refuses-late ∙ none, ← who, ← slot)

        -- 5 is not met
        pub asked-slot : k ≢ 0
        asked-slot z = omega (arith, none, shows, showing-none s (presented s me x) READ (sym slot ∙ z))
