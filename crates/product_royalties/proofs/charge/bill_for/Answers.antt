-- `bill_for` is the difference of two charges.
use Rattle.product_royalties.specs.Charge.{bill_for}
use Rattle.product_royalties.proofs.Charging.{charge-grows}
use Rattle.product_royalties.proofs.charge.bill_for.Goals as goal

pub overflow_sub-result : goal.overflow_sub-result
overflow_sub-result c = rw (c.charge.ensures, c.charge-2.ensures) (charge-grows _ c.args.n)

pub returns : goal.returns
unfolding bill_for
returns c = rw (c.charge.ensures, c.charge-2.ensures)
