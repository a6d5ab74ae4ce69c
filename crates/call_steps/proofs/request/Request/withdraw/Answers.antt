-- `withdraw` is the request that the spec writes out.
use Rattle.call_steps.proofs.request.Request.withdraw.Goals as goal

pub returns : goal.returns
returns c = c.presenting.ensures
