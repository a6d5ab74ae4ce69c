-- `running` is the rules' `running`.
use mathlib.Core.Path.{sym, ap, ◌∙◌}
use mathlib.Core.Bool.{not, false≢true}
use borrow.Author.Tests.{eq-eqb}
use Rattle.layout.specs.View.{view}
use Rattle.layout.proofs.Shown.{process-is}
use Rattle.call_steps.proofs.Callers.{process-zero, running-data, running-marks}
use Rattle.call_steps.proofs.objects.running.Goals as goal
use Rattle.call_steps.proofs.objects.running.Goals.{then-me-ne0, else-me-ne0}

pub returns-then-is_process : goal.returns-then-is_process
returns-then-is_process c s = elim c.if-me-ne0.branch [
  | then-me-ne0 w ↦
      c.is_unmarked.ensures
      ∙ running-marks c.args.bytes.now c.args.links.now s c.args.me
      (process-is _ _ s c.args.me ∙ sym w.is_process.ensures ∙ sym w.value-is ∙ c.if-is_process.true)
  | else-me-ne0 w ↦ absurd (false≢true (sym (ap not (eq-eqb _ _ w.if-me-ne0.false)) ∙ sym w.value-is ∙ c.if-is_process.true))
]

pub returns-else-is_process : goal.returns-else-is_process
returns-else-is_process c s = elim c.if-me-ne0.branch [
  | then-me-ne0 w ↦
      c.if-is_process.false
      ∙ running-data (view c.args.bytes.now c.args.links.now s) c.args.me
      (sym c.if-is_process.false ∙ w.value-is ∙ w.is_process.ensures ∙ sym (process-is _ _ s c.args.me))
  | else-me-ne0 w ↦
      c.if-is_process.false
      ∙ running-data (view c.args.bytes.now c.args.links.now s) c.args.me
      (process-zero c.args.bytes.now c.args.links.now s c.args.me w.if-me-ne0.false)
]
