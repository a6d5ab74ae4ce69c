-- `push_answer` is the rules' `answer_of`.
use Rattle.rules.specs.Rights.{op}
use Rattle.script_answers.proofs.Gathering.{answered-done, answered-refused}
use Rattle.script_answers.proofs.answer.push_answer.Goals as goal

pub returns-in-Ok : goal.returns-in-Ok
returns-in-Ok c = answered-done (op c.args.number) c.args.buffer.now c.in-Ok.is c.push-p.ensures c.push_results.ensures

pub returns-in-Err : goal.returns-in-Err
returns-in-Err c = answered-refused (op c.args.number) c.args.buffer.now c.in-Err.is c.from.ensures c.push.ensures
