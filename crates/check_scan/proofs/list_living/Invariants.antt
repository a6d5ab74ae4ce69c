-- `list_living` has listed the living slots above i.
use Rattle.check_scan.specs.Slots.{Slots}
use Rattle.check_scan.proofs.list_living.Given as goal

abbrev pub invariant-loop-i : goal.invariant-loop-i
invariant-loop-i l = Slots l.links l.list 0 l.n l.i 512
