-- `are_bytes` has passed bytes alone.
use Prim.Native.Nat.{◌-◌}
use mathlib.Core.Path.{◌≡◌}
use lib.ListN.{length, drop}
use Rattle.rules.specs.Script.{are_bytes}
use Rattle.script_lines.proofs.fits.are_bytes.Given as goal

abbrev pub invariant-loop-i : goal.invariant-loop-i
invariant-loop-i l = are_bytes (drop l.from l.numbers) ≡ are_bytes (drop l.i l.numbers)

abbrev pub decreases-loop-i : goal.decreases-loop-i
decreases-loop-i l = length l.numbers - l.i
