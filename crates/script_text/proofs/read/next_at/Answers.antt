-- `next_at` has room for four bytes and sees a digit that is not 0, or asks `number_at`.
use native.Mathlib.Omega.{arith}
use Rattle.script_text.proofs.Steps.{number-near}
use Rattle.script_text.proofs.read.next_at.Goals as goal

pub returns-then-b-le57 : goal.returns-then-b-le57
returns-then-b-le57 c =
    number-near _ _ _ (omega (arith, c.if-at-line.true)) c.if-b-ge49.true c.if-b-le57.true c.near_on.ensures
