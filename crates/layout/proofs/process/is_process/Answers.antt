-- `is_process` reads the master and the flag.
use Rattle.std.proofs.Common.{◌≢◌, ◌+◌, sym, ap, ◌∙◌, arith, slice_index}
use Rattle.std.proofs.lemmas.Bool.{eqb-true, not-false}
use Rattle.layout.specs.Layout as Layout
use Rattle.layout.specs.View.{is_set}
use Rattle.layout.proofs.Field.{field_in}
use Rattle.layout.proofs.Cells.{at_zero}
use Rattle.layout.proofs.Shown.{process-no, by_flag}
use Rattle.layout.proofs.Deciding.{differs}
use Rattle.layout.proofs.process.is_process.Goals as goal
use Rattle.layout.proofs.process.is_process.Goals.{then-o-ne0, else-o-ne0}

pub returns-then-links-o-ne0 : goal.returns-then-links-o-ne0
unfolding is_set
returns-then-links-o-ne0 c =
    let a = c.args in
    let both : (a.o ≢ 0) × (slice_index a.links.now (Layout.MASTER + a.o) ≢ 0) = elim c.if-o-ne0.branch [
      | then-o-ne0 w ↦ (w.if-o-ne0.true, (differs _ _).sound (sym w.value-is ∙ c.if-links-o-ne0.true))
      | else-o-ne0 w ↦ absurd ((differs _ _).sound (sym w.value-is ∙ c.if-links-o-ne0.true) w.if-o-ne0.false)
    ] in
    let flag = field_in 64 Layout.FLAG a.bytes.now a.o (omega (arith, both.0)) (omega (arith, c.requires.slot)) in
    let master = field_in 64 Layout.MASTER a.links.now a.o (omega (arith, both.0)) (omega (arith, c.requires.slot)) in
    sym (by_flag _ _ _ (λ z. both.1 (sym master ∙ z)) ∙ ap is_set flag)

pub returns-else-links-o-ne0 : goal.returns-else-links-o-ne0
returns-else-links-o-ne0 c =
    let a = c.args in
    c.if-links-o-ne0.false ∙ sym (process-no _ _ _ (elim c.if-o-ne0.branch [
      | then-o-ne0 w ↦ field_in 64 Layout.MASTER a.links.now a.o (omega (arith, w.if-o-ne0.true)) (omega (arith, c.requires.slot))
          ∙ eqb-true _ _ (not-false _ (sym w.value-is ∙ c.if-links-o-ne0.false))
      | else-o-ne0 w ↦ at_zero _ _ _ _ w.if-o-ne0.false
    ]))
