-- `push_capability` stores name and password.
use Rattle.rules.specs.Script.{written}
use Rattle.script_answers.proofs.Gathering.{pushed_then}
use Rattle.script_answers.proofs.answer.push_capability.Goals as goal

pub returns : goal.returns
unfolding written
returns c = pushed_then c.push_two-p.ensures c.push_two.ensures
