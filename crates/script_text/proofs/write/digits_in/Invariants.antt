-- `digits_in` takes one digit off after another; the shortest numbers by their size.
use Rattle.script_text.proofs.Spelling.{Counting}
use Rattle.script_text.proofs.write.digits_in.Given as goal

abbrev pub invariant-loop-rest : goal.invariant-loop-rest
invariant-loop-rest l = Counting l.n l.k l.rest

abbrev pub decreases-loop-rest : goal.decreases-loop-rest
decreases-loop-rest l = l.rest
