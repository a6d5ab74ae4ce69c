-- `asked` gives the right that the rules ask: the table, entry by entry, is the rules'.
use mathlib.Core.Path.{ap, ◌∙◌}
use Rattle.rules.specs.Rights.{asked}
use Rattle.values.specs.declared.rights.Rights.{Rights}
use Rattle.values.proofs.ByNumber.{ops, asked_table, asked-by-call}
use Rattle.values.proofs.rights.Rights.asked.Goals as goal

pub returns : goal.returns
unfolding asked ops asked_table
returns c = ap (λ (r : Rights). r.0) c.by_call.ensures ∙ asked-by-call c.args.number
