-- `derive_fits` is what the rules ask of derive_cap.
use Prim.Native.Nat.{◌≤◌}
use native.Mathlib.Omega.{arith}
use mathlib.Core.Path.{sym, ◌∙◌}
use mathlib.Core.Bool.{false≢true, and-false}
use borrow.Author.Tests.{lt-leb, le-leb}
use Rattle.rules.specs.Refusals.{ordered}
use Rattle.call_steps.proofs.ranges.derive_fits.Goals as goal
use Rattle.call_steps.proofs.ranges.derive_fits.Goals.{then-rights-le-MAX_RIGHTS, else-rights-le-MAX_RIGHTS}

pub returns-then-range : goal.returns-then-range
unfolding ordered
returns-then-range c = rw (le-leb _ _ c.if-range.true.0, le-leb _ _ c.if-range.true.1)

pub returns-else-range : goal.returns-else-range
unfolding ordered
returns-else-range c = elim c.if-rights-le-MAX_RIGHTS.branch [
  | then-rights-le-MAX_RIGHTS w ↦ rw (w.t-5-is, le-leb _ _ w.if-rights-le-MAX_RIGHTS.true, lt-leb c.args.range.start c.args.range.end (omega arith))
  | else-rights-le-MAX_RIGHTS w ↦ rw (w.t-5-is, lt-leb _ _ w.if-rights-le-MAX_RIGHTS.false)
]
