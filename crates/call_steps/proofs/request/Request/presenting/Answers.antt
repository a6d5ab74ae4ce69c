-- `presenting` is the request that the spec writes out.
use mathlib.Core.Path.{refl}
use Rattle.call_steps.specs.Request.{presenting_request}
use Rattle.call_steps.proofs.request.Request.presenting.Goals as goal

pub returns : goal.returns
unfolding presenting_request
returns c = refl
