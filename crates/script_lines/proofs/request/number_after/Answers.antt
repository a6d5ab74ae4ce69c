-- `number_after` looks as many places before as are lacking.
use Rattle.script_lines.proofs.Calls.{after-absent}
use Rattle.script_lines.proofs.request.number_after.Goals as goal

pub returns-then-place-lacking : goal.returns-then-place-lacking
returns-then-place-lacking c = after-absent _ _ _ c.if-place-lacking.true
