-- Each way has its own test of the moneyword.
use Rattle.call_purse.specs.Climb.{stops}
use Rattle.call_purse.proofs.way.Way.stops.Goals as goal

pub returns-in-Out : goal.returns-in-Out
unfolding stops
returns-in-Out c = rw c.in-Out.is c.below.ensures

pub returns-in-Into : goal.returns-in-Into
unfolding stops
returns-in-Into c = rw c.in-Into.is c.passes.ensures
