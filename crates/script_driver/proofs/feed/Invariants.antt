-- `feed` has fed what came before place `from` of the window.
use Prim.Native.Nat.{◌-◌}
use lib.ListN.{length}
use Rattle.script_play.specs.Workspace.{Works, StaysLent}
use Rattle.script_driver.proofs.Linking.{Inv}
use Rattle.script_driver.proofs.feed.Given as goal

abbrev pub invariant-loop-from : goal.invariant-loop-from
invariant-loop-from l =
    Inv l.initial.room.bytes.now l.initial.room.links.now l.initial.room.words.now l.initial.held l.window l.initial.out l.initial.run l.room.bytes.now l.room.links.now l.room.words.now l.held l.out l.run l.from
    × Works l.room × StaysLent l.initial.room l.room

abbrev pub decreases-loop-from : goal.decreases-loop-from
decreases-loop-from l = length l.window - l.from
