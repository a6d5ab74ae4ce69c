-- `window_at` reads two numbers.
use mathlib.Core.Path.{refl}
use Rattle.call_steps.specs.Numbers.{window_at}
use Rattle.call_steps.proofs.numbers.window_at.Goals as goal

pub returns : goal.returns
unfolding window_at
returns c = refl
