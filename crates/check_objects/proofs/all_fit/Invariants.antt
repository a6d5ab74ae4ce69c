-- `all_fit` has seen every slot that it passed to fit and to differ from those above it.
use Prim.Native.Nat.{◌≤◌}
use Rattle.check_rows.specs.Buckets.{Buckets}
use Rattle.check_rows.specs.Distinct.{NoneAbove}
use Rattle.check_objects.specs.Names.{SameName, name_keys}
use Rattle.check_objects.specs.Parts.{ObjectMeets}
use Rattle.check_rows.proofs.Counting.{Above}
use Rattle.check_objects.proofs.all_fit.Given as goal

abbrev pub invariant-loop-o : goal.invariant-loop-o
invariant-loop-o l =
    Buckets (name_keys l.bytes l.links) l.heads l.next l.o
    × Above (NoneAbove (SameName l.bytes l.links)) l.o
    × (l.o ≤ 64)
    × Above (ObjectMeets l.bytes l.links l.words) l.o
