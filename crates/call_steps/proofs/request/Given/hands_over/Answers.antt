-- `hands_over` is the rules' answer of a sum and of bytes.
use mathlib.Core.Path.{refl}
use Rattle.rules.specs.Store.{no_name, no_password}
use Rattle.rules.specs.Call.{no_capability, hands_over}
use Rattle.call_steps.specs.Request.{answer_of}
use Rattle.call_steps.proofs.request.Given.hands_over.Goals as goal

pub returns : goal.returns
unfolding answer_of no_capability no_name no_password hands_over
returns c = record { answer = λ bytes s. refl; counted = refl }
