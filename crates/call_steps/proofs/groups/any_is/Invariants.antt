-- `any_is` meets its contract: its answer says whether one of the cells so far is x.
use mathlib.Core.Path.{◌≡◌}
use lib.ListN.{take}
use Rattle.std.specs.List.{list_any}
use Rattle.call_steps.proofs.groups.any_is.Given as goal

abbrev pub invariant-loop-cell : goal.invariant-loop-cell
invariant-loop-cell g l = l.any ≡ list_any (λ (y : g.row.T.Denot). g.T.PartialEq.eq y l.x) (take l.cell-index l.cells)
