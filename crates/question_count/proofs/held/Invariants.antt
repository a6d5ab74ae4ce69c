-- `held` has counted the slots below i.
use Rattle.std.proofs.Common.{◌≡◌, ◌-◌, List, ℕ}
use Rattle.rules.specs.Slots.{count_over}
use Rattle.layout.specs.View.{view}
use Rattle.question_count.specs.Holding.{holds}
use Rattle.question_count.proofs.held.Given as goal

abbrev pub invariant-loop-i : goal.invariant-loop-i
invariant-loop-i l = (b w : List ℕ) → l.count ≡ count_over (l.i - 1) (holds (view b l.links w) l.o l.right.0)
