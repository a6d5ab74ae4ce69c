-- `p1_taken`: one is found.
use mathlib.Core.Path.{ap, ◌∙◌}
use Rattle.std.specs.Prelude.{is_some}
use Rattle.rules.specs.Slots.{some}
use Rattle.call_steps.proofs.Finding.{slot-is-some}
use Rattle.call_steps.proofs.taken.p1_taken.Goals as goal

pub returns : goal.returns
unfolding some
returns c b = c.is_some.ensures ∙ ap is_some (c.find_cap.ensures b) ∙ slot-is-some _
