-- `lacking` is `Lacking.lacking`, by the table.
use mathlib.Core.Path.{◌∙◌}
use Rattle.rules.specs.Fields.{last_day}
use Rattle.script_lines.specs.Table as Table
use Rattle.script_lines.proofs.Rows.{itself, place_in, length-in}
use Rattle.script_lines.proofs.Lacking.{lacking-none, lacking-one, lacking-two, lacking-other}
use Rattle.script_lines.proofs.fits.lacking.Goals as goal

pub returns-then-place-eq0 : goal.returns-then-place-eq0
unfolding Table.computes
returns-then-place-eq0 c = lacking-none _ _ _ (place_in last_day _ _ (itself _ c.requires)) c.if-place-eq0.true

pub returns-then-numbers-fields : goal.returns-then-numbers-fields
unfolding Table.computes
returns-then-numbers-fields c =
    let k = itself _ c.requires in
    lacking-one _ _ _ _ (place_in last_day _ _ k) c.if-place-eq0.false (c.from-fields.ensures ∙ length-in _ _ k)
    c.if-numbers-fields.true

pub returns-then-numbers-fields-2 : goal.returns-then-numbers-fields-2
unfolding Table.computes
returns-then-numbers-fields-2 c =
    let k = itself _ c.requires in
    lacking-two _ _ _ _ (place_in last_day _ _ k) c.if-place-eq0.false
    (c.from-fields.ensures ∙ length-in _ _ k) c.if-numbers-fields.false c.if-numbers-fields-2.true

pub returns : goal.returns
unfolding Table.computes
returns c =
    let k = itself _ c.requires in
    lacking-other _ _ _ _ (place_in last_day _ _ k) c.if-place-eq0.false
    (c.from-fields.ensures ∙ length-in _ _ k) c.if-numbers-fields.false c.if-numbers-fields-2.false
