-- `copy_bytes` copies number after number, each a byte.
use Prim.Native.Nat.{◌-◌}
use lib.ListN.{length}
use Rattle.script_lines.proofs.Gathering.{Copying}
use Rattle.script_lines.proofs.text.copy_bytes.Given as goal

abbrev pub invariant-loop-i : goal.invariant-loop-i
invariant-loop-i l = Copying l.numbers l.from l.initial.text l.text l.i l.n

abbrev pub decreases-loop-i : goal.decreases-loop-i
decreases-loop-i l = length l.numbers - l.i
