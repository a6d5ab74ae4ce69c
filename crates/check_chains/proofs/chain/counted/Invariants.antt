-- `counted` meets its contract: whatever the chain of `left` records from j on is found to be, so is that of `need`
-- records from head on.
use Rattle.check_chains.specs.Parts.{chain_in, Long}
use Rattle.check_chains.proofs.Marking.{Going, unvisited}
use Rattle.check_chains.proofs.chain.counted.Given as goal

abbrev pub invariant-loop-j : goal.invariant-loop-j
invariant-loop-j l = Going l.n (chain_in l.n l.off l.links (Long l.left) l.j) l.seen (chain_in l.n l.off l.links (Long l.need) l.head) l.initial.seen

abbrev pub decreases-loop-j : goal.decreases-loop-j
decreases-loop-j l = unvisited l.seen
