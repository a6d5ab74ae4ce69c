-- `start` is next pick 1 and steps so far 0.
use mathlib.Core.Path.{refl}
use Rattle.product_drive.specs.Drive.{start}
use Rattle.product_drive.proofs.repeat.Place.start.Goals as goal

pub returns : goal.returns
unfolding start
returns c = refl
