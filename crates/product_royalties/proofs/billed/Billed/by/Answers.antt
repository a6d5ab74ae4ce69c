-- `by` goes by the reply.
use mathlib.Core.Path.{sym, ap, ◌∙◌}
use Rattle.values.specs.Refusals.{code_of}
use Rattle.values.proofs.Numbers.{number-some}
use Rattle.product_royalties.specs.Bills.{done_bill, refused_bill}
use Rattle.product_royalties.proofs.Billing.{billed-done, billed-refused}
use Rattle.product_royalties.proofs.billed.Billed.by.Goals as goal

pub returns-in-Ok : goal.returns-in-Ok
unfolding done_bill
returns-in-Ok c = let a = c.args in sym (billed-done a.count a.total a.sum a.r (ap code_of c.in-Ok.is))

pub returns-in-Err : goal.returns-in-Err
returns-in-Err c =
    let a = c.args in
    let code = ap code_of c.in-Err.is in
    c.refused.ensures ∙ ap (λ n. refused_bill n a.count) (sym code)
    ∙ sym (billed-refused a.count a.total a.sum a.r (λ z. number-some c.in-Err.refusal (sym code ∙ z)))
