-- `first_place` has passed none that will do.
use Rattle.rules.specs.Questions.{entry}
use Rattle.layout.specs.View.{view}
use Rattle.question_lend.specs.Asks.{wish_of}
use Rattle.question_lend.specs.Places.{will_do}
use Rattle.question_lend.proofs.Searching.{Passed}
use Rattle.question_lend.proofs.first_place.Given as goal

abbrev pub invariant-loop-place : goal.invariant-loop-place
invariant-loop-place l = Passed (λ j. will_do (view l.bytes l.links l.words) l.me (wish_of l.x) (entry l.list j)) l.place
