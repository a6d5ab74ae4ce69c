-- The measure is twice the count of unvisited records, and one more for a chain: a chain calls its first record with the
-- same marks, all other calls come after a new mark. In the loop along a chain that count falls, too.
use Rattle.std.proofs.Common.{◌+◌, ◌*◌}
use Rattle.check_chains.proofs.Marking.{unvisited}
use Rattle.check_trees.proofs.Trees.{Along}
use Rattle.check_trees.proofs.sound.+check_chain_check_record.Given as goal

abbrev pub decreases-check_chain : goal.decreases-check_chain
decreases-check_chain l = 2 * unvisited l.seen.now + 1

abbrev pub decreases-check_record : goal.decreases-check_record
decreases-check_record l = 2 * unvisited l.seen.now

abbrev pub invariant-check_chain-loop-j : goal.invariant-check_chain-loop-j
invariant-check_chain-loop-j l = Along l.links l.o l.parent l.prev l.head l.initial.seen l.seen l.j l.back

abbrev pub decreases-check_chain-loop-j : goal.decreases-check_chain-loop-j
decreases-check_chain-loop-j l = unvisited l.seen
