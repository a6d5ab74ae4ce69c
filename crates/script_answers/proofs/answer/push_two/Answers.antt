-- `push_two` stores one after the other.
use Rattle.script_answers.proofs.Gathering.{pushed_then}
use Rattle.script_answers.proofs.answer.push_two.Goals as goal

pub returns : goal.returns
returns c = pushed_then c.push-p.ensures c.push.ensures
