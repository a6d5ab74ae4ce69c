-- `is_unmarked` reads the three marks.
use mathlib.Core.Path.{sym, ◌∙◌}
use mathlib.Core.Bool.{false≢true}
use Rattle.call_steps.proofs.Callers.{unmarked-is}
use borrow.Author.Tests.{eq-eqb, ne_eqb}
use native.Mathlib.Omega.{arith}
use Rattle.call_steps.proofs.objects.is_unmarked.Goals as goal
use Rattle.call_steps.proofs.objects.is_unmarked.Goals.{then-bytes-o-eq0, else-bytes-o-eq0}

pub returns-then-bytes-o-eq0-2 : goal.returns-then-bytes-o-eq0-2
returns-then-bytes-o-eq0-2 c =
    let a = c.args in
    elim c.if-bytes-o-eq0.branch [
      | then-bytes-o-eq0 w ↦ rw (
        unmarked-is a.bytes.now a.o (omega arith),
        eq-eqb _ _ w.if-bytes-o-eq0.true,
        sym w.value-is ∙ c.if-bytes-o-eq0-2.true,
      )
      | else-bytes-o-eq0 w ↦ absurd (false≢true (sym (ne_eqb _ _ w.if-bytes-o-eq0.false) ∙ sym w.value-is ∙ c.if-bytes-o-eq0-2.true))
    ]

pub returns-else-bytes-o-eq0-2 : goal.returns-else-bytes-o-eq0-2
returns-else-bytes-o-eq0-2 c =
    let a = c.args in
    elim c.if-bytes-o-eq0.branch [
      | then-bytes-o-eq0 w ↦ rw (
        unmarked-is a.bytes.now a.o (omega arith),
        eq-eqb _ _ w.if-bytes-o-eq0.true,
        sym w.value-is ∙ c.if-bytes-o-eq0-2.false,
      ) c.if-bytes-o-eq0-2.false
      | else-bytes-o-eq0 w ↦ rw (unmarked-is a.bytes.now a.o (omega arith), ne_eqb _ _ w.if-bytes-o-eq0.false) c.if-bytes-o-eq0-2.false
    ]
