-- `window_at` reads the rows of starts and ends.
use Rattle.layout.specs.Layout as Layout
use Rattle.layout.proofs.Field.{row}
use Rattle.call_steps.proofs.target.window_at.Goals as goal

pub returns : goal.returns
returns c =
    rw (row Layout.START c.args.words.now c.args.k c.requires.fact_2, row Layout.END c.args.words.now c.args.k c.requires.fact_2)
