-- `free_marked` meets its contract: its answer says whether of the records above i, just the free ones are marked.
use Rattle.layout.specs.Rows.{field}
use Rattle.check_chains.specs.Marking.{FreeAt}
use Rattle.check_chains.proofs.Down.{Down}
use Rattle.check_chains.proofs.marks.free_marked.Given as goal

abbrev pub invariant-loop-i : goal.invariant-loop-i
invariant-loop-i l = Down l.n l.i (FreeAt (field l.n l.off l.links) l.seen) l.ok

abbrev pub decreases-loop-i : goal.decreases-loop-i
decreases-loop-i l = l.i
