-- `name_at` reads two numbers.
use mathlib.Core.Path.{refl}
use Rattle.call_steps.specs.Numbers.{name_at}
use Rattle.call_steps.proofs.numbers.name_at.Goals as goal

pub returns : goal.returns
unfolding name_at
returns c = refl
