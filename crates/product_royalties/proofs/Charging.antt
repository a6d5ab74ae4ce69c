-- The charge grows with the count, is a 32-bit number, and a bill is what is added to it.
use Prim.Native.Nat.{ℕ, ◌+◌, ◌≤◌}
use mathlib.Core.Path.{◌≡◌}
use native.Mathlib.Omega.{arith}
use Rattle.product_royalties.specs.Charge.{charge, bill_for}
use Rattle.product_royalties.proofs.Tiers.{none, most, grows}

pub nothing-charged : charge 0 ≡ 0
unfolding charge
nothing-charged = omega (arith, none)

pub charge-grows : (p n : ℕ) → charge p ≤ charge (p + n)
unfolding charge
charge-grows p n = omega (arith, grows p n)

pub charged : (p n : ℕ) → charge p + bill_for p n ≡ charge (p + n)
unfolding bill_for
charged p n = omega (arith, charge-grows p n)

-- no pick costs a whole credit, so the charge is a 32-bit number as the count is
pub charge-most : (p : ℕ) → charge p ≤ p
unfolding charge
charge-most p = omega (arith, most p)
