-- `copy_out` copies part by part, and walks the chain once.
use Prim.Native.Nat.{◌-◌}
use mathlib.Core.Path.{◌≡◌}
use Rattle.call_transfer.specs.Runs.{copied_out}
use Rattle.call_transfer.proofs.Copying.{Walking}
use Rattle.call_transfer.proofs.from_blocks.copy_out.Given as goal

abbrev pub invariant-loop-i : goal.invariant-loop-i
invariant-loop-i l = Walking l.links l.head l.start l.n l.i l.block × (l.buffer ≡ copied_out l.bytes l.links l.head l.start l.i l.initial.buffer)

abbrev pub decreases-loop-i : goal.decreases-loop-i
decreases-loop-i l = l.n - l.i
