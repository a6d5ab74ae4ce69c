-- `is_named` reads the serial, the volume and the master.
use mathlib.Core.Path.{sym, ◌∙◌}
use mathlib.Core.Bool.{false≢true, true≢false}
use borrow.Author.Tests.{eq-eqb, ne_eqb, eqb-true}
use native.Mathlib.Omega.{arith}
use Rattle.call_steps.specs.Request.{name_of}
use Rattle.call_steps.proofs.Callers.{named_other, named-else, named-lives}
use Rattle.call_steps.proofs.objects.is_named.Goals as goal
use Rattle.call_steps.proofs.objects.is_named.Goals.{then-from-name, else-from-name}

pub returns-then-from-name-2 : goal.returns-then-from-name-2
returns-then-from-name-2 c s =
    let a = c.args in
    elim c.if-from-name.branch [
      | then-from-name w ↦ named-lives a.bytes.now a.links.now s (name_of a.name) a.o (omega arith)
          c.from.result c.from.ensures w.if-from-name.true w.from-then-from-name.result w.from-then-from-name.ensures
          (eqb-true _ _ (sym w.value-is ∙ c.if-from-name-2.true))
      | else-from-name w ↦ absurd (false≢true (sym (ne_eqb _ _ w.if-from-name.false) ∙ sym w.value-is ∙ c.if-from-name-2.true))
    ]

pub returns-else-from-name-2 : goal.returns-else-from-name-2
returns-else-from-name-2 c s =
    let a = c.args in
    elim c.if-from-name.branch [
      | then-from-name w ↦ c.if-from-name-2.false ∙ named-else a.bytes.now a.links.now s (name_of a.name) a.o (omega arith)
          w.from-then-from-name.result w.from-then-from-name.ensures
          (λ e. true≢false (sym (eq-eqb _ _ e) ∙ sym w.value-is ∙ c.if-from-name-2.false))
      | else-from-name w ↦ c.if-from-name-2.false ∙ named_other a.bytes.now a.links.now s (name_of a.name) a.o (omega arith)
          c.from.result c.from.ensures w.if-from-name.false
    ]
