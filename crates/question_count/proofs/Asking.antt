-- The question's refusals in the order in which the code tests them, and the number where none is met.
use Prim.Native.Nat.{ℕ}
use mathlib.Core.Path.{◌≡◌, sym, ap, ◌∙◌}
use mathlib.Core.Logic.{◌≢◌}
use mathlib.Core.Bool.{true, false, ◌&&◌, and-false}
use mathlib.Core.List.{List}
use native.Mathlib.Omega.{arith}
use borrow.Author.Tests.{ne_eqb}
use Rattle.rules.specs.Code as Code
use Rattle.rules.specs.Store as Store
use Rattle.rules.specs.Store.{State, object_named}
use Rattle.rules.specs.Rights.{is_right}
use Rattle.rules.specs.Refusals.{◌when◌, first, name_fits}
use Rattle.rules.specs.Questions.{opening, count_refuses, uncounted, counted_by, passwords_asked}
use Rattle.rules.proofs.Tests.{by_bool}
use Rattle.layout.specs.Rows.{master_of, flag_of}
use Rattle.layout.specs.View.{is_process, view}
use Rattle.layout.proofs.Shown.{process-is, process-lives, object-shown}

-- a living process, by the cells
pub caller-is : (b l w : List ℕ) (o : ℕ)
    → (((view b l w).object o).live && ((view b l w).object o).process) ≡ is_process (master_of l) (flag_of b) o
caller-is b l w o = by_bool (is_process (master_of l) (flag_of b) o)
    (λ e. rw (process-is b l w o, object-shown b l w o (process-lives (master_of l) (flag_of b) o e), e))
    (λ e.
    ap (λ p. ((view b l w).object o).live && p) (process-is b l w o ∙ e) ∙ and-false ((view b l w).object o).live ∙ sym e)

module _ (s : State) (caller object : Store.Name) (right : ℕ) where
  asked-refused : (n : ℕ) → first (count_refuses s caller object right) ≡ n → n ≢ Code.done
      → passwords_asked s caller object right ≡ uncounted n
  unfolding passwords_asked counted_by
  asked-refused n e nz = rw e (rw (ne_eqb n Code.done nz, counted_by))

  pub asked-two : (is_right right && name_fits caller && name_fits object) ≡ false
      → passwords_asked s caller object right ≡ uncounted Code.out_of_range
  unfolding count_refuses first ◌when◌
  asked-two h = asked-refused Code.out_of_range (rw h) (λ z. omega arith)

  module _ (fit : (is_right right && name_fits caller && name_fits object) ≡ true)
      (me : ℕ) (who : me ≡ object_named s caller) where
    pub asked-three : ((s.object me).live && (s.object me).process) ≡ false
        → passwords_asked s caller object right ≡ uncounted Code.not_running
    unfolding count_refuses first ◌when◌
    asked-three h = asked-refused Code.not_running (rw (fit, ← who, h)) (λ z. omega arith)

    pub asked-done : ((s.object me).live && (s.object me).process) ≡ true
        → passwords_asked s caller object right ≡ record { code = Code.done; count = opening s me object right }
    unfolding passwords_asked counted_by count_refuses first ◌when◌
    asked-done h = rw (fit, ← who, h)
