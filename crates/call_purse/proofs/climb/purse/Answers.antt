-- The cell of slot k in the row of moneywords.
use mathlib.Core.Path.{sym}
use Rattle.layout.specs.Layout as Layout
use Rattle.layout.proofs.Field.{field_in}
use Rattle.call_purse.proofs.climb.purse.Goals as goal

pub returns : goal.returns
returns c = sym (field_in 512 Layout.MONEY c.args.words.now c.args.k c.requires.1 c.requires.2)
