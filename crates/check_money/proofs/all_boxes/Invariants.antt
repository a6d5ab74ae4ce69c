-- `all_boxes` has added up the sums in the boxes that it passed.
use Prim.Native.Nat.{ℕ, ◌*◌}
use mathlib.Core.List.{List}
use Rattle.layout.proofs.Adding.{Added}
use Rattle.rules.specs.Store.{sums_in}
use Rattle.layout.specs.View.{view}
use Rattle.check_money.proofs.all_boxes.Given as goal

-- total is what the boxes above o hold
abbrev pub HeldAbove : List ℕ → List ℕ → List ℕ → ℕ → ℕ → Type 0
HeldAbove b l w = Added (λ o. sums_in ((view b l w).box o)) (4294967295 * 255) 64

abbrev pub invariant-loop-o : goal.invariant-loop-o
invariant-loop-o l = HeldAbove l.bytes l.links l.words l.o l.total
