-- `tells` is the rules' answer of that name.
use mathlib.Core.Path.{refl}
use Rattle.rules.specs.Store.{no_name, no_password}
use Rattle.rules.specs.Call.{no_capability, code, tells}
use Rattle.call_steps.specs.Request.{answer_of}
use Rattle.call_steps.proofs.request.Given.tells.Goals as goal

pub returns : goal.returns
unfolding answer_of no_capability no_name no_password code tells
returns c = record { answer = λ s. refl; none = refl }
