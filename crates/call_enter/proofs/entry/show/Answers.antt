-- `show` asks the right where the call presents a capability.
use mathlib.Core.Path.{sym, ap, ◌∙◌}
use Rattle.rules.specs.Rights.{op}
use Rattle.rules.specs.Password.{presented}
use Rattle.rules.specs.Refusals.{first, showing}
use Rattle.layout.specs.View.{view}
use Rattle.call_steps.specs.Request.{capability_of}
use Rattle.call_enter.specs.Enters.{entry_of}
use Rattle.call_enter.proofs.Entering.{shown-some, shown-none}
use Rattle.call_enter.proofs.entry.show.Goals as goal

pub returns-then-not-presents : goal.returns-then-not-presents
unfolding entry_of
returns-then-not-presents c =
    let a = c.args in
    shown-none a.bytes.now a.links.now a.words.now a.me (capability_of a.x) (op a.number) (sym c.if-not-presents.ensures)

pub returns-in-Ok : goal.returns-in-Ok
unfolding entry_of
returns-in-Ok c =
    let a = c.args in
    let s = view a.bytes.now a.links.now a.words.now in
    shown-some a.bytes.now a.links.now a.words.now a.me (capability_of a.x) (op a.number)
    (sym c.if-not-presents.ensures) _ _ c.in-Ok.ensures.slot
    (c.in-Ok.ensures.code ∙ ap (λ r. first (showing s (presented s a.me (capability_of a.x)) r)) c.asked.ensures)

pub returns-in-Err : goal.returns-in-Err
unfolding entry_of
returns-in-Err c =
    let a = c.args in
    let s = view a.bytes.now a.links.now a.words.now in
    shown-some a.bytes.now a.links.now a.words.now a.me (capability_of a.x) (op a.number)
    (sym c.if-not-presents.ensures) _ _ c.in-Err.ensures.slot
    (c.in-Err.ensures.code ∙ ap (λ r. first (showing s (presented s a.me (capability_of a.x)) r)) c.asked.ensures)
