-- Each way has its own change of the moneyword; what does not stop the sum has room for it.
use Prim.Native.Nat.{◌+◌}
use native.Mathlib.Omega.{arith}
use mathlib.Core.Path.{refl}
use borrow.Author.Tests.{ltb-false}
use Rattle.call_purse.specs.Climb.{stops, moves}
use Rattle.call_purse.proofs.way.Way.moves.Goals as goal

pub overflow_add-result : goal.overflow_add-result
unfolding stops
overflow_add-result c =
    let room = rw c.in-Into.is at c.requires in
    omega (arith, ltb-false 4294967295 (c.args.m.0 + c.args.sum) room)

pub returns-in-Out : goal.returns-in-Out
unfolding moves
returns-in-Out c = rw c.in-Out.is c.less.ensures

pub returns-in-Into : goal.returns-in-Into
unfolding moves
returns-in-Into c = rw c.in-Into.is refl
