-- `name_fits` is the rules' `name_fits`.
use borrow.Author.Tests.{lt-leb, le-leb}
use Rattle.rules.specs.Refusals.{name_fits}
use Rattle.call_steps.proofs.ranges.name_fits.Goals as goal

pub returns-then-name-le-MAX_VOLUME : goal.returns-then-name-le-MAX_VOLUME
unfolding name_fits
returns-then-name-le-MAX_VOLUME c = rw (le-leb _ _ c.if-name-le-MAX_VOLUME.true)

pub returns-else-name-le-MAX_VOLUME : goal.returns-else-name-le-MAX_VOLUME
unfolding name_fits
returns-else-name-le-MAX_VOLUME c = rw (lt-leb _ _ c.if-name-le-MAX_VOLUME.false)
