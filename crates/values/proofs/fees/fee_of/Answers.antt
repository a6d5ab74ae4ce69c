-- `fee_of` gives the rules' fee: the table is the rules' list.
use mathlib.Core.Path.{◌∙◌}
use Rattle.rules.specs.Rights.{fees}
use Rattle.values.proofs.ByNumber.{fee-by-call}
use Rattle.values.proofs.fees.fee_of.Goals as goal

pub returns : goal.returns
unfolding fees
returns c = c.by_call.ensures ∙ fee-by-call c.args.number
