-- `push` writes a space and the number.
use Rattle.script_answers.proofs.Gathering.{pushed-one}
use Rattle.script_answers.proofs.answer.push.Goals as goal

pub returns : goal.returns
returns c = pushed-one _ _ _ _ _ _ _ c.requires c.put_byte-p.ensures c.put_number.ensures
