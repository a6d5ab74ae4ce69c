-- `presents` goes by the right that is asked.
use mathlib.Core.Path.{ap, ◌∙◌}
use mathlib.Core.Bool.{not}
use lib.Dec.{eqb}
use Rattle.rules.specs.Rights.{op}
use Rattle.call_steps.proofs.Fitting.{asks}
use Rattle.call_steps.proofs.ranges.presents.Goals as goal

pub returns : goal.returns
returns c = ap (λ x. not (eqb x 0)) c.asked.ensures ∙ asks (op c.args.number)
