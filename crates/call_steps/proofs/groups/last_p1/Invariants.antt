-- `last_p1` meets its contract: it counts down from the slot where `skip_groups` stopped.
use Prim.Native.Nat.{◌-◌, ◌≤◌}
use Rattle.layout.specs.Layout as Layout
use Rattle.call_steps.specs.Tests.{SameFrom, cell_is}
use Rattle.call_steps.proofs.groups.last_p1.Given as goal

-- slots i - 1 and below are left to look at
abbrev pub invariant-loop-i : goal.invariant-loop-i
invariant-loop-i l = (1 ≤ l.i) × SameFrom (cell_is Layout.P1 l.words l.p1) l.n (l.i - 1)
