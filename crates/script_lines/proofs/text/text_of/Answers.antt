-- `text_of` copies what the line has from the place of its bytes on.
use mathlib.Core.Path.{◌∙◌}
use Rattle.rules.specs.Fields.{text}
use Rattle.script_lines.specs.Table as Table
use Rattle.script_lines.proofs.Rows.{of_number, place_in}
use Rattle.script_lines.proofs.Bytes.{line-bytes}
use Rattle.script_lines.proofs.Calls.{no_front, bytes-front}
use Rattle.script_lines.proofs.text.text_of.Goals as goal

pub returns-then-from-eq0 : goal.returns-then-from-eq0
unfolding Table.computes
returns-then-from-eq0 c =
    let e = of_number c.column-call.ensures c.nth.ensures in
    no_front _ _ _ _ (c.from-from.ensures ∙ place_in text _ _ e) c.if-from-eq0.true

pub copy_bytes-requires : goal.copy_bytes-requires
unfolding Table.computes
copy_bytes-requires c =
    let e = of_number c.column-call.ensures c.nth.ensures in
    line-bytes _ _ _ c.requires (c.from-from.ensures ∙ place_in text _ _ e) c.if-from-eq0.false

pub returns : goal.returns
unfolding Table.computes
returns c =
    let e = of_number c.column-call.ensures c.nth.ensures in
    bytes-front _ _ _ _ _ (c.from-from.ensures ∙ place_in text _ _ e) c.if-from-eq0.false c.copy_bytes.ensures
