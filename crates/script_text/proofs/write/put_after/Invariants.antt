-- `put_after` has written the numbers passed, each with its space.
use Rattle.script_text.proofs.Pasting.{Putting}
use Rattle.script_text.proofs.write.put_after.Given as goal

abbrev pub invariant-loop-number : goal.invariant-loop-number
invariant-loop-number l = Putting l.initial.out l.at l.numbers l.out l.p l.number-index
