-- `push_bytes` writes byte after byte.
use Rattle.script_answers.proofs.Gathering.{Pushing}
use Rattle.script_answers.proofs.answer.push_bytes.Given as goal

abbrev pub invariant-loop-byte : goal.invariant-loop-byte
invariant-loop-byte l = Pushing l.initial.out l.at l.bytes l.out l.p l.byte-index
