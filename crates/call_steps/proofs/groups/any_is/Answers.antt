-- `any_is` meets its contract: its answer says whether one of the cells so far is x.
use mathlib.Core.Path.{◌≡◌, refl, sym, ap, ap₂, ◌∙◌}
use mathlib.Core.Bool.{Bool, ◌||◌}
use lib.ListN.{get_or}
use Rattle.std.specs.List.{list_any}
use Rattle.std.proofs.lemmas.List.{take_all}
use Rattle.std.proofs.lemmas.List.Folds.{list_any_more}
use Rattle.call_steps.proofs.groups.any_is.Goals as goal

pub loop-cell-init : goal.loop-cell-init
loop-cell-init g c = refl

pub loop-cell-preserved : goal.loop-cell-preserved
loop-cell-preserved g c =
    let is_x : g.row.T.Denot → Bool = λ y. g.T.PartialEq.eq y c.args.x in
    let l = c.loop-cell in
    let here : c.eq-any.result ≡ is_x (get_or c.args.cells.now l.cell-index c.cell-item.result) =
    c.eq-any.ensures ∙ ap is_x c.cell-item.is in
    ap₂ (λ a b. a || b) l.invariant here
    ∙ sym (list_any_more is_x c.args.cells.now l.cell-index c.cell-item.result c.loop-cell-test.true)

pub returns : goal.returns
returns g c =
    c.loop-cell.invariant
    ∙ ap (list_any (λ (y : g.row.T.Denot). g.T.PartialEq.eq y c.args.x))
    (take_all c.loop-cell.cell-index c.args.cells.now c.loop-cell-test.false)
