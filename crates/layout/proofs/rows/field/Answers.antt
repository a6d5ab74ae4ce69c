-- `field` reads the cell of a slot of the row.
use Rattle.std.proofs.Common.{sym, ◌∙◌, arith, ◌+◌, ◌<◌, length}
use Rattle.std.proofs.lemmas.List.{get_or_default}
use Rattle.layout.proofs.Field.{cell_in, cell_out}
use Rattle.layout.proofs.rows.field.Goals as goal

pub returns-then-i-n : goal.returns-then-i-n
returns-then-i-n g c =
    let inside : c.args.off + c.args.i < length c.args.row.now = omega (arith, c.requires, c.if-i-n.true) in
    c.index-row-off.is ∙ get_or_default _ _ _ _ inside ∙ sym (cell_in _ _ _ _ _ c.if-i-ge1.true c.if-i-n.true)

pub returns-else-i-ge1 : goal.returns-else-i-ge1
returns-else-i-ge1 g c = c.NONE.ensures ∙ sym (cell_out _ _ _ _ _ (λ p q. omega (arith, c.else-i-ge1.either)))
