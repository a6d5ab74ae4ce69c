-- `has` is the rules' `has`.
use mathlib.Core.Path.{refl}
use Rattle.rules.specs.Rights.{has}
use Rattle.values.proofs.rights.Rights.has.Goals as goal

pub returns : goal.returns
unfolding has
returns c = refl
