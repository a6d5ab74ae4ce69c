-- `none_from` has seen the test say no at every slot that it passed.
use Rattle.std.proofs.Common.{length, ◌-◌}
use Rattle.check_rows.proofs.Chaining.{Along, left}
use Rattle.check_rows.proofs.table.none_from.Given as goal

abbrev pub invariant-loop-j : goal.invariant-loop-j
invariant-loop-j g l = Along (length l.next - 1) (goal.F-post g l.same) l.next l.head l.j

abbrev pub decreases-loop-j : goal.decreases-loop-j
decreases-loop-j g l = left (length l.next - 1) l.j
