-- `fits` tests the repeat, then the place.
use mathlib.Core.Path.{sym, ◌∙◌}
use Rattle.product_drive.specs.Drive.{fits}
use Rattle.product_drive.proofs.repeat.Repeat.fits.Goals as goal

pub returns-then-in_range : goal.returns-then-in_range
unfolding fits
returns-then-in_range c = rw (c.has.ensures, sym c.in_range.ensures ∙ c.if-in_range.true)

pub returns-else-in_range : goal.returns-else-in_range
unfolding fits
returns-else-in_range c = rw (sym c.in_range.ensures ∙ c.if-in_range.false) c.if-in_range.false
