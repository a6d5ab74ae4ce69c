-- `push_message` stores the sum and the bytes.
use Rattle.script_answers.proofs.Gathering.{pushed_then}
use Rattle.script_answers.proofs.answer.push_message.Goals as goal

pub returns : goal.returns
returns c = pushed_then c.push-p.ensures c.push_bytes.ensures
