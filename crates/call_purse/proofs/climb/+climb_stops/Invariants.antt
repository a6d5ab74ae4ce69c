-- The measure is the length of the climb that is left.
use lib.ListN.{length}
use Rattle.call_purse.specs.Climb.{climb_of}
use Rattle.call_purse.proofs.climb.+climb_stops.Given as goal

abbrev pub decreases-climb_stops : goal.decreases-climb_stops
decreases-climb_stops l = length (climb_of l.links.now l.k)
