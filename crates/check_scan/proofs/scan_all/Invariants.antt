-- `scan_all` has passed the slots above the entry k, as Reached says.
use Rattle.std.proofs.Common.{length}
use Rattle.check_scan.proofs.Scanning.{Reached}
use Rattle.check_scan.proofs.scan_all.Given as goal

abbrev pub invariant-loop-entry : goal.invariant-loop-entry
invariant-loop-entry l = Reached l.links l.words l.heads l.next l.living l.entry-index (length l.living) l.total
