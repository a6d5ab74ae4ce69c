-- `holds` is the rules' `lies_in`.
use borrow.Author.Tests.{le-leb, lt-leb}
use mathlib.Core.Path.{refl}
use Rattle.rules.specs.Calls.{lies_in}
use Rattle.values.proofs.window.Window.holds.Goals as goal

pub returns-then-self-range : goal.returns-then-self-range
unfolding lies_in
returns-then-self-range c = simp (le-leb _ _ c.if-self-range.true, lies_in) refl

pub returns-else-self-range : goal.returns-else-self-range
unfolding lies_in
returns-else-self-range c = simp (lt-leb _ _ c.if-self-range.false, lies_in) refl
