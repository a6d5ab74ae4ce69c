-- `is_right` looks in the table, which is the rules'.
use mathlib.Core.Path.{◌∙◌}
use Rattle.rules.specs.Rights.{thirteen, is_right}
use Rattle.values.proofs.Thirteen.{listed}
use Rattle.values.proofs.rights.Rights.is_right.Goals as goal

pub returns : goal.returns
unfolding is_right thirteen
returns c = c.contains.ensures.value ∙ listed c.args.number thirteen
