-- `blocks_of` rounds up.
use native.Mathlib.Omega.{arith}
use Rattle.rules.specs.Store.{blocks}
use Rattle.values.proofs.blocks.blocks_of.Goals as goal

pub returns : goal.returns
unfolding blocks
returns c = omega (arith, c.div_ceil.ensures)
