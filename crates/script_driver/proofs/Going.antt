-- How far a turn comes.
use Prim.Native.Nat.{ℕ, ◌≤◌}
use mathlib.Core.List.{List}
use native.Mathlib.Omega.{arith}
use lib.ListN.{length}
use Rattle.script_driver.specs.Machine.{Machine}
use Rattle.script_driver.specs.Turns.{At, ANSWER, Feeds, all, full, held, ended}

-- no more is taken than there is
pub feeds-within : {M : Machine} {room n : ℕ} {g g' : At M} {l l' window out : List ℕ} → Feeds M room g l window n out g' l'
    → n ≤ length window
feeds-within all = omega arith
feeds-within (full h) = omega arith
feeds-within (held h ne f) = omega (arith, feeds-within f)
feeds-within (ended h d f) = omega (arith, feeds-within f)

-- where there is room, a byte at least is taken, so that turns that have room come to the end of any input
pub feeds-some : {M : Machine} {room n : ℕ} {g g' : At M} {l l' window out : List ℕ} → Feeds M room g l window n out g' l'
    → 1 ≤ length window → ANSWER ≤ room → 1 ≤ n
feeds-some all some room = absurd (omega arith)
feeds-some (full h) some room = absurd (omega arith)
feeds-some (held h ne f) some room = omega arith
feeds-some (ended h d f) some room = omega arith
