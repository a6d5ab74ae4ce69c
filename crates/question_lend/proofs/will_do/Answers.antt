-- `will_do` presents the entry, and where it is let through compares it.
use mathlib.Core.Path.{◌≡◌, refl, ◌∙◌}
use Rattle.values.specs.Refusals.{number_of}
use Rattle.values.proofs.Numbers.{number-some}
use Rattle.rules.specs.Code as Code
use Rattle.layout.specs.View.{view}
use Rattle.call_steps.specs.Request.{capability_of}
use Rattle.call_steps.specs.Run.{Held}
use Rattle.call_steps.proofs.Holding.{found-held}
use Rattle.call_purse.proofs.Reaching.{climbable}
use Rattle.question_lend.specs.Asks.{wish_of}
use Rattle.question_lend.proofs.Comparing.{not-shown, shown-some, shown-lends}
use Rattle.question_lend.proofs.will_do.Goals as goal
use Rattle.question_lend.proofs.will_do.Goals.{In-Ok}

-- 5, 19 and 6 are not met
held : (c : In-Ok) → Held c.args.links.now c.in-Ok.k
held c =
    let a = c.args in
    found-held a.bytes.now a.links.now a.words.now a.me (capability_of a.e) c.in-Ok.k c.in-Ok.ensures.slot
    (shown-some (view a.bytes.now a.links.now a.words.now) a.me (wish_of a.x) (capability_of a.e) Code.done c.in-Ok.k
    c.in-Ok.ensures.slot c.in-Ok.ensures.code refl)

pub lendable-requires-clause-fact_1 : goal.lendable-requires-clause-fact_1
lendable-requires-clause-fact_1 c =
    climbable c.args.bytes.now c.args.links.now c.args.words.now c.requires.fact_1 _ (held c)

pub lendable-requires-clause-fact_2 : goal.lendable-requires-clause-fact_2
lendable-requires-clause-fact_2 c = held c

pub returns-in-Ok : goal.returns-in-Ok
returns-in-Ok c =
    let a = c.args in
    c.lendable.ensures a.bytes.now c.requires.fact_1
    ∙ shown-lends (view a.bytes.now a.links.now a.words.now) a.me (wish_of a.x) (capability_of a.e) Code.done c.in-Ok.k
    c.in-Ok.ensures.slot c.in-Ok.ensures.code refl

pub returns-in-Err : goal.returns-in-Err
returns-in-Err c =
    let a = c.args in
    not-shown (view a.bytes.now a.links.now a.words.now) a.me (wish_of a.x) (capability_of a.e) (number_of c.in-Err.field-0.refusal) _
    refl c.in-Err.ensures.code (number-some c.in-Err.field-0.refusal)
