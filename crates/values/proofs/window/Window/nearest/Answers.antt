-- `nearest` is the rules' `nearest`.
use native.Mathlib.Omega.{arith}
use Rattle.rules.specs.Calls.{nearest}
use Rattle.values.proofs.window.Window.nearest.Goals as goal

pub returns-then-x-self-2 : goal.returns-then-x-self-2
unfolding nearest
returns-then-x-self-2 c = omega arith

pub returns-else-x-self-2 : goal.returns-else-x-self-2
unfolding nearest
returns-else-x-self-2 c = omega arith

pub returns-then-self : goal.returns-then-self
unfolding nearest
returns-then-self c = omega arith

pub returns-else-self : goal.returns-else-self
unfolding nearest
returns-else-self c = omega arith
