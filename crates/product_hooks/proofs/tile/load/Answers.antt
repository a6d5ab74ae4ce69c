-- `load` joins eight bytes.
use Prim.Native.Nat.{◌+◌}
use native.Mathlib.Omega.{arith}
use Rattle.product_hooks.proofs.Loading.{loaded}
use Rattle.product_hooks.proofs.tile.load.Goals as goal

pub returns : goal.returns
returns c =
    let p = c.args.at in
    let small = c.type_inv.pattern in
    loaded c.args.pattern.now p _ _ _ _ _ _ _ _
    (c.from.ensures, omega (arith, c.from.ensures, small p))
    (c.from-2.ensures, omega (arith, c.from-2.ensures, small (p + 1)))
    (c.from-3.ensures, omega (arith, c.from-3.ensures, small (p + 2)))
    (c.from-4.ensures, omega (arith, c.from-4.ensures, small (p + 3)))
    (c.from-5.ensures, omega (arith, c.from-5.ensures, small (p + 4)))
    (c.from-6.ensures, omega (arith, c.from-6.ensures, small (p + 5)))
    (c.from-7.ensures, omega (arith, c.from-7.ensures, small (p + 6)))
    (c.from-8.ensures, omega (arith, c.from-8.ensures, small (p + 7)))
