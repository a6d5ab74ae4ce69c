-- `refused` hands back the place.
use mathlib.Core.Path.{ap}
use Rattle.product_drive.specs.Picks.{refused_pick}
use Rattle.product_drive.proofs.picked.Picked.refused.Goals as goal

pub returns : goal.returns
unfolding refused_pick
returns c = ap (λ n. refused_pick n c.args.place) c.from.ensures
