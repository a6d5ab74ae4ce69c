-- `charge` is the whole part, which the cast keeps.
use mathlib.Core.Path.{ap}
use Prim.Native.Nat.{◌/◌}
use native.Mathlib.Omega.{arith}
use Rattle.product_royalties.specs.Charge.{credit, charge}
use Rattle.product_royalties.proofs.Charging.{charge-most}
use Rattle.product_royalties.proofs.charge.charge.Goals as goal

pub overflow_cast-result : goal.overflow_cast-result
unfolding charge
overflow_cast-result c = omega (arith, c.thousandths.ensures, charge-most c.args.p)

pub returns : goal.returns
unfolding charge
returns c = ap (λ t. t / credit) c.thousandths.ensures
