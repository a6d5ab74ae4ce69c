-- `read_numbers` has read the numbers before its place, and knows what the rest may say.
use Rattle.script_text.proofs.Steps.{Filling}
use Rattle.script_text.proofs.read.read_numbers.Given as goal

abbrev pub invariant-loop-count : goal.invariant-loop-count
invariant-loop-count l = Filling l.line l.initial.out l.out l.at l.count
