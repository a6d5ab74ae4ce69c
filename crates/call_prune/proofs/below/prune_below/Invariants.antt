-- `prune_below` takes turn after turn; the number of turns left falls.
use Rattle.std.proofs.Common.{◌≢◌}
use Rattle.call_prune.proofs.Measuring.{left, Turning}
use Rattle.call_prune.proofs.below.prune_below.Given as goal

abbrev pub invariant-loop-next : goal.invariant-loop-next
invariant-loop-next l = Turning l.initial.links l.k l.links l.j × (l.j ≢ 0)

abbrev pub decreases-loop-next : goal.decreases-loop-next
decreases-loop-next l = left l.links l.j
