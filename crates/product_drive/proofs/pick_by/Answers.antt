-- `pick_by` asks the question and makes the read, as its access does both.
use mathlib.Core.Path.{sym, ap, ◌∙◌}
use mathlib.Core.List.{[]}
use Rattle.values.proofs.Numbers.{number-some}
use Rattle.kernel_step.specs.Slices.{slices}
use Rattle.product_drive.specs.Drive.{holds_repeat}
use Rattle.product_drive.proofs.Ranges.{repeat-fits}
use Rattle.product_drive.proofs.Rows.{read-holds}
use Rattle.product_drive.proofs.Picking.{pick-unread}
use Rattle.product_drive.proofs.pick_by.Goals as goal

pub readable-requires : goal.readable-requires
readable-requires g c = repeat-fits c.args.repeat c.args.place (sym c.fits.ensures ∙ c.if-not-fits.false)

pub returns-in-Err : goal.returns-in-Err
returns-in-Err g c =
    let a = c.args in
    pick-unread a.caller a.x a.repeat a.place _ (sym c.fits.ensures ∙ c.if-not-fits.false) c.ask-answer.result _ c.in-Err.ensures.code
    (slices a.bytes.now a.links.now a.words.now a.buffer.now []) c.ask-answer.ensures (number-some _) c.refused-in-Err.ensures

pub row_request-req-requires-clause-fact_2 : goal.row_request-req-requires-clause-fact_2
row_request-req-requires-clause-fact_2 g c =
    ap (λ v. holds_repeat v c.args.repeat) c.in-Ok.ensures.window ∙ read-holds c.args.repeat c.ask-answer.result (sym c.in-Ok.ensures.code)
