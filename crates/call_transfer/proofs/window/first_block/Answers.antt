-- `first_block` reads the row of first blocks at the object's slot.
use mathlib.Core.Path.{sym, ◌∙◌}
use Rattle.layout.specs.Layout as Layout
use Rattle.layout.specs.Rows.{owner_of}
use Rattle.layout.proofs.Field.{field_in}
use Rattle.call_transfer.proofs.window.first_block.Goals as goal

pub returns : goal.returns
returns c =
    let h = c.requires.1.slot in
    c.from.ensures
    ∙ rw c.target-o.ensures
    (sym (field_in 64 Layout.FIRST_BLOCK c.args.links.now (owner_of c.args.links.now c.args.k) h.low h.high))
