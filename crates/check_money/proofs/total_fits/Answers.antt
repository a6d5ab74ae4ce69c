-- `total_fits` adds the four parts of the total.
use native.Mathlib.Omega.{arith}
use Rattle.check_money.proofs.Living.{total-decided}
use Rattle.check_money.proofs.total_fits.Goals as goal

pub overflow_add-result-3 : goal.overflow_add-result-3
overflow_add-result-3 c = omega (arith, c.type_inv.words 0)

pub returns : goal.returns
returns c =
    let a = c.all_cash-cash.ensures in
    let m = c.requires.given in
    total-decided _ _ _ _ _ _ _ a.is m.is c.all_boxes-boxes.ensures.is c.from-house.ensures
