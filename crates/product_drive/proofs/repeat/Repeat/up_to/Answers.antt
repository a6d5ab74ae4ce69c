-- `up_to` divides a product below 2 to the power 40.
use Rattle.product_drive.specs.Drive.{up_to}
use Rattle.product_drive.proofs.repeat.Repeat.up_to.Goals as goal

pub returns : goal.returns
unfolding up_to
returns c = rw (c.from.ensures, c.from-2.ensures, c.from-3.ensures)
