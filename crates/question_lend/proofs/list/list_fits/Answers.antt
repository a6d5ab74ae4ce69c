-- `list_fits` looks at the length, then at the names.
use mathlib.Core.Path.{◌≡◌, sym, ◌∙◌}
use mathlib.Core.Bool.{true, false, false≢true}
use native.Mathlib.Omega.{arith}
use borrow.Author.Tests.{leb-true, leb-false, eqb-true}
use Rattle.rules.specs.Questions.{entries}
use Rattle.question_lend.proofs.Listing.{not-whole, too_long, by_names}
use Rattle.question_lend.proofs.list.list_fits.Goals as goal
use Rattle.question_lend.proofs.list.list_fits.Goals.{then-list-eq0, else-list-eq0}

pub names_fit-requires : goal.names_fit-requires
unfolding entries
names_fit-requires c = elim c.if-list-eq0.branch [
  | then-list-eq0 w ↦ leb-true _ _ (sym w.value-is ∙ c.if-list-le-MAX_ENTRIES.true)
  | else-list-eq0 w ↦ absurd (w.if-list-eq0.false (eqb-true _ _ (sym w.value-is ∙ c.if-list-le-MAX_ENTRIES.true)))
]

pub returns-then-list-le-MAX_ENTRIES : goal.returns-then-list-le-MAX_ENTRIES
unfolding entries
returns-then-list-le-MAX_ENTRIES c = elim c.if-list-eq0.branch [
  | then-list-eq0 w ↦ c.names_fit.ensures
      ∙ by_names _ (omega (arith, w.if-list-eq0.true)) (leb-true _ _ (sym w.value-is ∙ c.if-list-le-MAX_ENTRIES.true))
  | else-list-eq0 w ↦ absurd (w.if-list-eq0.false (eqb-true _ _ (sym w.value-is ∙ c.if-list-le-MAX_ENTRIES.true)))
]

pub returns-else-list-le-MAX_ENTRIES : goal.returns-else-list-le-MAX_ENTRIES
unfolding entries
returns-else-list-le-MAX_ENTRIES c = c.if-list-le-MAX_ENTRIES.false ∙ elim c.if-list-eq0.branch [
  | then-list-eq0 w ↦ too_long _ (omega (arith, w.if-list-eq0.true)) (leb-false _ _ (sym w.value-is ∙ c.if-list-le-MAX_ENTRIES.false))
  | else-list-eq0 w ↦ not-whole _ (λ e. w.if-list-eq0.false (omega (arith, e)))
]
