-- `find_object` counts down as the rules' `find` does, from the slot where `from_serial` stopped.
use Prim.Native.Nat.{ℕ, ◌-◌, ◌≤◌}
use mathlib.Core.List.{List}
use Rattle.layout.specs.View.{view}
use Rattle.call_steps.specs.Request.{name_of}
use Rattle.call_steps.specs.Tests.{SameFrom, named}
use Rattle.call_steps.proofs.objects.find_object.Given as goal

-- slots o - 1 and below are left to look at
abbrev pub invariant-loop-o : goal.invariant-loop-o
invariant-loop-o l =
    (1 ≤ l.o) × (l.o ≤ 65) × ((w : List ℕ) → SameFrom (named (view l.bytes l.links w) (name_of l.name)) 64 (l.o - 1))
