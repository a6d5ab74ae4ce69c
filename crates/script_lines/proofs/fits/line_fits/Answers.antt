-- `line_fits` is the rules' `line_fits`, by the table.
use mathlib.Core.Path.{sym, ap, ◌∙◌}
use Rattle.rules.specs.Rights.{Op}
use Rattle.rules.specs.Fields.{text}
use Rattle.script_lines.specs.Table as Table
use Rattle.script_lines.specs.Lacking.{lacking}
use Rattle.script_lines.proofs.Rows.{of_number, place_in, length-in}
use Rattle.script_lines.proofs.Calls.{call-is, fits_not, fits-exactly, fits-or-more}
use Rattle.script_lines.proofs.fits.line_fits.Goals as goal

pub returns-then-not-is_call : goal.returns-then-not-is_call
returns-then-not-is_call c =
    let l = c.args.numbers.now in
    sym (fits_not _ l (call-is l _ _ _ c.nth-number.ensures c.is_call.ensures c.if-not-is_call.true))

pub returns-then-text-eq0 : goal.returns-then-text-eq0
unfolding Table.computes
returns-then-text-eq0 c =
    let l = c.args.numbers.now in
    let k = of_number c.column-call.ensures c.nth-number.ensures in
    fits-exactly _ l _ _ _
    (call-is l _ _ _ c.nth-number.ensures c.is_call.ensures c.if-not-is_call.false)
    (c.from-text.ensures ∙ place_in text _ _ k)
    c.if-text-eq0.true
    (c.from.ensures ∙ c.lacking.ensures ∙ ap (λ (o : Op). lacking o l) k.1)
    (c.from-then-text-eq0.ensures ∙ length-in _ _ k)

pub returns : goal.returns
unfolding Table.computes
returns c =
    let l = c.args.numbers.now in
    let k = of_number c.column-call.ensures c.nth-number.ensures in
    fits-or-more _ l _ _
    (call-is l _ _ _ c.nth-number.ensures c.is_call.ensures c.if-not-is_call.false)
    (c.from-text.ensures ∙ place_in text _ _ k) c.if-text-eq0.false c.ends_in_bytes.ensures
