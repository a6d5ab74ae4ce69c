-- The rules on examples, by computation: 01's script, the cases that 01 marks P, and scripts that the reference answered.
use mathlib.Core.Path.{◌≡◌, refl}
use mathlib.Core.List.{map}
use Rattle.rules.specs.Script as Script
use Rattle.rules.specs.Edges as Edges
use Rattle.rules.specs.Scripts as Scripts
use Rattle.rules.specs.Script.{writes, says, example}
use Rattle.rules.specs.Edges.{edges, given, expected}
use Rattle.rules.specs.Scripts.{scripts}

-- 01's script writes what 01 says, to the `T` line
pub example-writes : writes example ≡ says example
unfolding Script.computes
example-writes = refl

-- at every edge marked P the rules give what 01 says
pub edges-hold : map given edges ≡ map expected edges
unfolding Script.computes Edges.computes
edges-hold = refl

-- the rules answer each script as the reference does
pub scripts-write : map writes scripts ≡ map says scripts
unfolding Script.computes Scripts.computes
scripts-write = refl
