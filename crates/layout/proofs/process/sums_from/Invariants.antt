-- `sums_from` has added up the sums of the messages that it passed.
use Rattle.layout.proofs.Summing.{Gathered}
use Rattle.layout.proofs.process.sums_from.Given as goal

abbrev pub invariant-loop-at : goal.invariant-loop-at
invariant-loop-at l = Gathered l.words l.n l.i l.at l.total
