-- `put_digits` writes digit after digit, from the last back.
use Rattle.script_text.proofs.Spelling.{Spelling}
use Rattle.script_text.proofs.write.put_digits.Given as goal

abbrev pub invariant-loop-rest : goal.invariant-loop-rest
invariant-loop-rest l = Spelling l.initial.out l.at l.n l.out l.i l.rest

abbrev pub decreases-loop-rest : goal.decreases-loop-rest
decreases-loop-rest l = l.rest
