-- `transfer_fits` is the rules' `transfer_fits`.
use borrow.Author.Tests.{lt-leb, le-leb}
use Rattle.rules.specs.Refusals.{ordered, transfer_fits}
use Rattle.call_steps.proofs.ranges.transfer_fits.Goals as goal

pub returns-then-range : goal.returns-then-range
unfolding ordered transfer_fits
returns-then-range c = rw (le-leb _ _ c.if-range.true)

pub returns-else-range : goal.returns-else-range
unfolding ordered transfer_fits
returns-else-range c = rw (lt-leb _ _ c.if-range.false)
