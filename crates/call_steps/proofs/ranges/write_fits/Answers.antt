-- `write_fits` is what the rules ask of write: where the range fits, its start is not after its end.
use mathlib.Core.Path.{sym}
use borrow.Author.Tests.{leb-true}
use Rattle.rules.specs.Refusals.{ordered, transfer_fits}
use Rattle.rules.proofs.Tests.{all2}
use Rattle.call_steps.proofs.ranges.write_fits.Goals as goal

pub overflow_sub-result : goal.overflow_sub-result
unfolding ordered transfer_fits
overflow_sub-result c = leb-true _ _ (all2 _ _ (sym c.if-transfer_fits.ensures)).0
