-- The cell of slot o in the row of cash.
use mathlib.Core.Path.{sym}
use Rattle.layout.specs.Layout as Layout
use Rattle.layout.proofs.Field.{field_in}
use Rattle.call_purse.proofs.cash_of.Goals as goal

pub returns : goal.returns
returns c = sym (field_in 64 Layout.CASH c.args.words.now c.args.o c.requires.1 c.requires.2)
