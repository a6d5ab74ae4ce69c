-- `digits_on` scans byte after byte; what its digits say is not 0, and fits each time.
use mathlib.Core.Logic.{◌≢◌}
use Rattle.script_text.proofs.Steps.{On}
use Rattle.script_text.proofs.read.digits_on.Given as goal

abbrev pub invariant-loop-i : goal.invariant-loop-i
invariant-loop-i l = On l.line l.at l.first l.value l.i × (l.value ≢ 0)
