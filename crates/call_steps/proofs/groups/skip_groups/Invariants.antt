-- `skip_groups` meets its contract: no cell after those that are left is x.
use Prim.Native.Nat.{◌≤◌}
use mathlib.Core.Path.{◌≡◌}
use mathlib.Core.Bool.{false}
use lib.ListN.{length, drop}
use Rattle.std.specs.List.{list_any}
use Rattle.call_steps.proofs.groups.skip_groups.Given as goal

abbrev pub invariant-loop-left : goal.invariant-loop-left
invariant-loop-left g l =
    (l.left ≤ length l.cells) × (list_any (λ (y : g.row.T.Denot). g.T.PartialEq.eq y l.x) (drop l.left l.cells) ≡ false)

abbrev pub decreases-loop-left : goal.decreases-loop-left
decreases-loop-left g l = l.left
