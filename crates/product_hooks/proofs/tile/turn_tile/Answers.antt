-- `turn_tile` is three exchanges, and they turn a tile.
use Rattle.product_hooks.proofs.Exchange.{exchange, moved}
use Rattle.product_hooks.proofs.Across.{across, is-across}
use Rattle.product_hooks.proofs.tile.turn_tile.Goals as goal

pub returns : goal.returns
unfolding across exchange moved
returns c = is-across c.args.x
