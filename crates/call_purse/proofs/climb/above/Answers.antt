-- The cell of slot k in the row of parents.
use mathlib.Core.Path.{sym, ◌∙◌}
use Rattle.layout.specs.Layout as Layout
use Rattle.layout.proofs.Field.{field_in}
use Rattle.call_purse.proofs.climb.above.Goals as goal

pub returns : goal.returns
returns c = c.from.ensures ∙ sym (field_in 512 Layout.PARENT c.args.links.now c.args.k c.requires.1 c.requires.2)
