-- `copy_in` copies part by part, and walks the chain once.
use Prim.Native.Nat.{◌-◌}
use mathlib.Core.Path.{◌≡◌}
use lib.ListN.{length}
use Rattle.call_transfer.specs.Runs.{copied_in}
use Rattle.call_transfer.proofs.Copying.{Walking}
use Rattle.call_transfer.proofs.to_blocks.copy_in.Given as goal

abbrev pub invariant-loop-i : goal.invariant-loop-i
invariant-loop-i l = Walking l.links l.head l.start (length l.text) l.i l.block × (l.bytes ≡ copied_in l.links l.head l.start l.text l.i l.initial.bytes)

abbrev pub decreases-loop-i : goal.decreases-loop-i
decreases-loop-i l = length l.text - l.i
