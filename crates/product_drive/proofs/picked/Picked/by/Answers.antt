-- `by` goes by the reply.
use mathlib.Core.Path.{sym, ap, ◌∙◌}
use Rattle.values.specs.Refusals.{code_of}
use Rattle.values.proofs.Numbers.{number-some}
use Rattle.call_steps.specs.Request.{count_of}
use Rattle.product_drive.specs.Picks.{refused_pick}
use Rattle.product_drive.proofs.Outcomes.{picked-done, picked-refused}
use Rattle.product_drive.proofs.picked.Picked.by.Goals as goal

pub returns-in-Ok : goal.returns-in-Ok
returns-in-Ok c =
    let a = c.args in
    rw (picked-done a.repeat a.place a.r (ap code_of c.in-Ok.is), c.step_at.ensures, c.place_after.ensures, ap count_of c.in-Ok.is)

pub returns-in-Err : goal.returns-in-Err
returns-in-Err c =
    let a = c.args in
    let code = ap code_of c.in-Err.is in
    c.refused.ensures ∙ ap (λ n. refused_pick n a.place) (sym code)
    ∙ sym (picked-refused a.repeat a.place a.r (λ z. number-some c.in-Err.refusal (sym code ∙ z)))
