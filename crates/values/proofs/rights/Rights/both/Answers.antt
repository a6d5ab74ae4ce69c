-- `both` is the rules' `both`.
use mathlib.Core.Path.{refl}
use Rattle.rules.specs.Rights.{both}
use Rattle.values.proofs.rights.Rights.both.Goals as goal

pub returns : goal.returns
unfolding both
returns c = refl
