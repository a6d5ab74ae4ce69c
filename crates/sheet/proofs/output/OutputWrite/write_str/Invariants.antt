-- `write_str` has put the text before what is left of it; a turn empties a full buffer.
use Rattle.std.proofs.Common.{◌≡◌, ◌+◌, ◌++◌, length}
use Rattle.sheet.specs.Kept.{kept}
use Rattle.sheet.proofs.output.OutputWrite.write_str.Given as goal

abbrev pub invariant-loop-rest : goal.invariant-loop-rest
invariant-loop-rest l = kept (l.self ++ l.rest) ≡ kept (l.initial.self ++ l.s)

abbrev pub decreases-loop-rest : goal.decreases-loop-rest
decreases-loop-rest l = length l.self + length l.rest
