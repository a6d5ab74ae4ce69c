-- `skip_groups` meets its contract: no cell after those that are left is x.
use mathlib.Core.Path.{sym, ap, ◌∙◌}
use mathlib.Core.Bool.{Bool}
use lib.ListN.{length}
use native.Mathlib.Omega.{arith}
use Rattle.std.specs.List.{list_any}
use Rattle.std.proofs.lemmas.List.{drop_all}
use Rattle.call_steps.proofs.Finding.{none-before}
use Rattle.call_steps.proofs.groups.skip_groups.Goals as goal

pub loop-left-init : goal.loop-left-init
loop-left-init g c = (
  omega arith,
  ap (list_any (λ (y : g.row.T.Denot). g.T.PartialEq.eq y c.args.x))
      (drop_all (length c.args.cells.now) c.args.cells.now (omega arith)),
)

pub loop-left-preserved : goal.loop-left-preserved
loop-left-preserved g c =
    let is_x : g.row.T.Denot → Bool = λ y. g.T.PartialEq.eq y c.args.x in
    let l = c.loop-left in
    (omega arith, none-before is_x c.args.cells.now l.left 16 (omega arith) (sym c.any_is.ensures ∙ c.if-any_is.false) l.invariant.1)

pub returns : goal.returns
returns g c = record { low = c.loop-left.invariant.0; passed = c.loop-left.invariant.1 }
