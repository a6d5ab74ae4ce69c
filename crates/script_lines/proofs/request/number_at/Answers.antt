-- `number_at` tests whether there is such a place.
use Rattle.script_lines.proofs.Calls.{absent, present}
use Rattle.script_lines.proofs.request.number_at.Goals as goal

pub returns-then-place-eq0 : goal.returns-then-place-eq0
returns-then-place-eq0 c = absent _ _ c.if-place-eq0.true

pub returns : goal.returns
returns c = present _ _ _ _ c.from.ensures c.nth.ensures c.if-place-eq0.false
