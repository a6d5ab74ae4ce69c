-- `turn_at` loads a tile, turns it and stores it.
use mathlib.Core.Path.{◌∙◌}
use Rattle.product_hooks.proofs.Loading.{turned-in}
use Rattle.product_hooks.proofs.tile.turn_at.Goals as goal

pub returns : goal.returns
returns c =
    c.store.ensures
    ∙ turned-in c.args.pattern.now c.args.at _ _
    c.requires c.load-x.ensures c.turn_tile.ensures
