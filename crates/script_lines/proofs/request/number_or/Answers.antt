-- `number_or` gives the default where the number is lacking.
use Rattle.script_lines.proofs.Calls.{or-default, or-had}
use Rattle.script_lines.proofs.request.number_or.Goals as goal

pub returns-then-lacks : goal.returns-then-lacks
returns-then-lacks c = or-default _ _ _ _ c.if-lacks.true

pub returns : goal.returns
returns c = or-had _ _ _ _ _ c.if-lacks.false c.number_at.ensures
