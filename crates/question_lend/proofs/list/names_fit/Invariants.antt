-- `names_fit` has passed none that is out of range.
use Rattle.question_lend.proofs.Searching.{Passed}
use Rattle.question_lend.proofs.Listing.{unnamed}
use Rattle.question_lend.proofs.list.names_fit.Given as goal

abbrev pub invariant-loop-place : goal.invariant-loop-place
invariant-loop-place l = Passed (unnamed l.list) l.place
