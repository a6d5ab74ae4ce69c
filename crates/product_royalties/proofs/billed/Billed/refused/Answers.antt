-- `refused` hands back the count.
use mathlib.Core.Path.{ap}
use Rattle.product_royalties.specs.Bills.{refused_bill}
use Rattle.product_royalties.proofs.billed.Billed.refused.Goals as goal

pub returns : goal.returns
unfolding refused_bill
returns c = ap (λ n. refused_bill n c.args.count) c.from.ensures
