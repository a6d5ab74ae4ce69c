-- `list_living` has listed the living slots above i.
use native.Mathlib.Omega.{arith}
use Rattle.check_scan.proofs.Listing.{no-entry, one_entry, all_listed}
use Rattle.check_scan.proofs.list_living.Goals as goal

pub loop-i-init : goal.loop-i-init
loop-i-init c = no-entry _ _

pub loop-i-preserved : goal.loop-i-preserved
loop-i-preserved c = one_entry _ _ _ _ c.loop-i.invariant (omega arith) (omega (arith, c.loop-i.invariant.room)) _ c.next_place-n.ensures

pub returns : goal.returns
returns c = all_listed _ _ _ _ (omega arith) c.loop-i.invariant
