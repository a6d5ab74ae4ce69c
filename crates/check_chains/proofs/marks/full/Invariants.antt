-- `full` meets its contract: its answer says whether the records above k are marked.
use mathlib.Core.Logic.{◌≢◌}
use lib.ListN.{get_or}
use Rattle.check_chains.proofs.Down.{Down}
use Rattle.check_chains.proofs.marks.full.Given as goal

abbrev pub invariant-loop-k : goal.invariant-loop-k
invariant-loop-k l = Down l.n l.k (λ i. get_or l.seen i 0 ≢ 0) l.ok

abbrev pub decreases-loop-k : goal.decreases-loop-k
decreases-loop-k l = l.k
