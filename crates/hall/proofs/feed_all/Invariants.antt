-- `feed_all` has fed what came before place `from`; with room, a byte at least is taken.
use Prim.Native.Nat.{◌-◌}
use lib.ListN.{length}
use Rattle.script_driver.specs.Parts.{store_in}
use Rattle.hall.proofs.Going.{Going}
use Rattle.hall.proofs.feed_all.Given as goal

abbrev pub invariant-loop-from : goal.invariant-loop-from
invariant-loop-from l =
    Going (store_in l.initial.room) l.initial.held l.initial.out l.room l.held l.window l.out l.initial.run l.run l.from

abbrev pub decreases-loop-from : goal.decreases-loop-from
decreases-loop-from l = length l.window - l.from
