-- `play_all` makes turn after turn, and so many were made.
use Rattle.hall.proofs.Going.{turning-start, turning-asks, turning-on}
use Rattle.hall.proofs.play_all.Goals as goal

pub loop-init : goal.loop-init
loop-init c = turning-start c.requires

pub turn-requires : goal.turn-requires
turn-requires c = turning-asks c.loop.invariant c.loop-test.true

pub loop-preserved : goal.loop-preserved
loop-preserved c = turning-on c.loop.invariant c.in-Some.ensures.fed c.turn.auto.input
