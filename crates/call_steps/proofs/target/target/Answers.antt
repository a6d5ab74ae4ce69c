-- `target` reads the row of owners.
use mathlib.Core.Path.{sym, ◌∙◌}
use Rattle.layout.specs.Layout as Layout
use Rattle.layout.proofs.Field.{field_in}
use Rattle.call_steps.proofs.target.target.Goals as goal

pub returns : goal.returns
returns c =
    let h = c.requires.fact_2 in
    c.from.ensures ∙ sym (field_in 512 Layout.OWNER c.args.links.now c.args.k h.low h.high)
