-- Every list of bills adds up.
use mathlib.Core.Path.{◌≡◌, ap}
use native.Mathlib.Omega.{arith}
use Rattle.product_royalties.specs.Charge.{charge}
use Rattle.product_royalties.specs.Theorems.{last_count, picks, BillsAddUp}
use Rattle.product_royalties.proofs.Charging.{nothing-charged}
use Rattle.product_royalties.proofs.Adding.{stands}

pub bills-add-up : BillsAddUp
unfolding BillsAddUp
bills-add-up es f =
    let s = stands 0 es f in
    let count : last_count 0 es ≡ picks es = omega (arith, s.count) in
    record {
      sum = omega (arith, s.sum, nothing-charged, ap charge count);
      count = count;
    }
