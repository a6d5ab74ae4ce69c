-- `is_whole` tests both ends of the window and the last day.
use native.Mathlib.Omega.{arith}
use mathlib.Core.Path.{sym, ◌∙◌}
use mathlib.Core.Bool.{false≢true, true≢false}
use borrow.Author.Tests.{eq-eqb, ne_eqb, eqb-true}
use Rattle.layout.proofs.Deciding.{no-it, as-well, equal}
use Rattle.check_caps.proofs.is_whole.Goals as goal
use Rattle.check_caps.proofs.is_whole.Goals.{then-start-eq0, else-start-eq0}

pub returns-then-field : goal.returns-then-field
returns-then-field c = elim c.if-start-eq0.branch [
  | then-start-eq0 w ↦
      as-well (equal c.args.end c.from.result)
      (λ e. (
        w.if-start-eq0.true,
        omega (arith, e, c.from.ensures, c.field-then-field.ensures),
        sym w.field.ensures ∙ eqb-true _ _ (sym w.value-is ∙ c.if-field.true),
      ))
      (λ h. omega (arith, h.1, c.from.ensures, c.field-then-field.ensures))
  | else-start-eq0 w ↦ absurd (false≢true (sym (ne_eqb _ _ w.if-start-eq0.false) ∙ sym w.value-is ∙ c.if-field.true))
]

pub returns-else-field : goal.returns-else-field
returns-else-field c = rw c.if-field.false (no-it (λ h. elim c.if-start-eq0.branch [
  | then-start-eq0 w ↦ true≢false (sym (eq-eqb _ _ (w.field.ensures ∙ h.2)) ∙ sym w.value-is ∙ c.if-field.false)
  | else-start-eq0 w ↦ w.if-start-eq0.false h.0
]))
