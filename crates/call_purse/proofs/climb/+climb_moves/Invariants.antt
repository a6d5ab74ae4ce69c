-- The measure is the length of the climb that is left.
use lib.ListN.{length}
use Rattle.call_purse.specs.Climb.{climb_of}
use Rattle.call_purse.proofs.climb.+climb_moves.Given as goal

abbrev pub decreases-climb_moves : goal.decreases-climb_moves
decreases-climb_moves l = length (climb_of l.links.now l.k)
