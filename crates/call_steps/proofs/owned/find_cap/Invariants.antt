-- `find_cap` counts down as the rules' `find` does, from one slot with the p1 to the next.
use Prim.Native.Nat.{ℕ, ◌≤◌}
use mathlib.Core.List.{List}
use Rattle.layout.specs.View.{view}
use Rattle.call_steps.specs.Tests.{SameFrom, taken}
use Rattle.call_steps.proofs.owned.find_cap.Given as goal

abbrev pub invariant-loop-i : goal.invariant-loop-i
invariant-loop-i l = (l.last ≤ 512) × ((b : List ℕ) → SameFrom (taken (view b l.links l.words) l.o l.p1) 512 l.last)

abbrev pub decreases-loop-i : goal.decreases-loop-i
decreases-loop-i l = l.last
