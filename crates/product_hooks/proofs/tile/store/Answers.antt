-- `store` leaves the eight bytes of the word.
use Rattle.product_hooks.specs.Tile.{bytes_of}
use Rattle.product_hooks.proofs.Loading.{stored}
use Rattle.product_hooks.proofs.tile.store.Goals as goal

pub returns : goal.returns
unfolding bytes_of
returns c = stored c.args.pattern.now c.args.at _ _ _ _ _ _ _ _
