-- `play_all` makes turn after turn, and so many were made.
use Rattle.hall.proofs.Going.{Turning}
use Rattle.hall.proofs.play_all.Given as goal

abbrev pub invariant-loop : goal.invariant-loop
invariant-loop l = Turning l.room l.held l.input l.out l.run l.counter
