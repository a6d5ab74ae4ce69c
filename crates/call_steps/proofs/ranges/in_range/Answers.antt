-- `in_range` is the rules' `in_range`.
use mathlib.Core.Path.{sym, ◌∙◌}
use mathlib.Core.Bool.{false≢true}
use Rattle.call_steps.specs.Request.{call_of}
use Rattle.call_steps.proofs.Fitting.{range-caller, range-presented, range-own}
use Rattle.call_steps.proofs.ranges.in_range.Goals as goal
use Rattle.call_steps.proofs.ranges.in_range.Goals.{then-name_fits, else-name_fits}

pub returns-then-presented_fits : goal.returns-then-presented_fits
unfolding call_of
returns-then-presented_fits c d e = elim c.if-name_fits.branch [
  | then-name_fits w ↦
      c.arguments_fit.ensures d e
      ∙ range-own (call_of c.args.req d c.args.buffer c.args.scratch) (sym c.name_fits.ensures ∙ w.if-name_fits.true)
      (sym w.presented_fits.ensures ∙ sym w.value-is ∙ c.if-presented_fits.true)
  | else-name_fits w ↦ absurd (false≢true (sym w.if-name_fits.false ∙ sym w.value-is ∙ c.if-presented_fits.true))
]

pub returns-else-presented_fits : goal.returns-else-presented_fits
unfolding call_of
returns-else-presented_fits c d e = elim c.if-name_fits.branch [
  | then-name_fits w ↦
      c.if-presented_fits.false
      ∙ range-presented (call_of c.args.req d c.args.buffer c.args.scratch) (sym w.presented_fits.ensures ∙ sym w.value-is ∙ c.if-presented_fits.false)
  | else-name_fits w ↦
      c.if-presented_fits.false
      ∙ range-caller (call_of c.args.req d c.args.buffer c.args.scratch) (sym c.name_fits.ensures ∙ w.if-name_fits.false)
]
