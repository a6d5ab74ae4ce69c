-- `holds` reads the owner, and where it is the object the last day and the rights.
use Prim.Native.Nat.{ℕ, ◌+◌}
use mathlib.Core.Path.{◌≡◌, sym, ap, ◌∙◌}
use mathlib.Core.Logic.{◌≢◌}
use mathlib.Core.Bool.{false, not}
use mathlib.Core.List.{List}
use lib.ListN.{get_or}
use borrow.Author.Tests.{eqb-true}
use Rattle.layout.specs.Layout as Layout
use Rattle.layout.specs.Rows.{owner_of}
use Rattle.layout.proofs.Field.{row}
use Rattle.call_steps.specs.Run.{Held}
use Rattle.call_steps.specs.Tests.{CapSlot}
use Rattle.question_count.proofs.Counting.{held-not, held_by}
use Rattle.question_count.proofs.holds.Goals as goal
use Rattle.question_count.proofs.holds.Goals.{then-from-o, else-from-o}

-- n, which the code compares, is the owner
owner : (l : List ℕ) (i n : ℕ) → CapSlot i → n ≡ get_or l (Layout.OWNER + i) 0 → n ≡ owner_of l i
owner l i n slot e = e ∙ sym (row Layout.OWNER l i slot)

-- it is the object's
held : (l : List ℕ) (i o : ℕ) → CapSlot i → o ≢ 0 → owner_of l i ≡ o → Held l i
held l i o slot some e = record { low = slot.low; high = slot.high; live = λ z. some (sym e ∙ z) }

pub expired-requires-clause-fact_2 : goal.expired-requires-clause-fact_2
expired-requires-clause-fact_2 c =
    let a = c.args in
    held a.links.now a.i a.o c.requires.slot c.requires.some
    (sym (owner a.links.now a.i _ c.requires.slot c.from.ensures) ∙ c.if-from-o.true)

pub right_held-requires-clause-fact_2 : goal.right_held-requires-clause-fact_2
right_held-requires-clause-fact_2 c =
    let a = c.args in
    elim c.if-from-o.branch [
      | then-from-o w ↦ held a.links.now a.i a.o c.requires.slot c.requires.some
          (sym (owner a.links.now a.i _ c.requires.slot c.from.ensures) ∙ w.if-from-o.true)
      | else-from-o w ↦ absurd (w.if-from-o.false (eqb-true _ _ (sym w.value-is ∙ c.if-not-expired.true)))
    ]

pub returns-then-not-expired : goal.returns-then-not-expired
returns-then-not-expired c b v =
    let a = c.args in
    elim c.if-from-o.branch [
      | then-from-o w ↦ held_by b a.links.now v a.i a.o a.right.0
          (sym (owner a.links.now a.i _ c.requires.slot c.from.ensures) ∙ w.if-from-o.true) c.requires.some c.right_held.result
          (rw (ap not (sym (w.expired.ensures b v)) ∙ sym w.value-is ∙ c.if-not-expired.true) (sym (c.right_held.ensures b v)))
      | else-from-o w ↦ absurd (w.if-from-o.false (eqb-true _ _ (sym w.value-is ∙ c.if-not-expired.true)))
    ]

pub returns-else-not-expired : goal.returns-else-not-expired
returns-else-not-expired c b v =
    let a = c.args in
    c.if-not-expired.false ∙ elim c.if-from-o.branch [
      | then-from-o w ↦ held_by b a.links.now v a.i a.o a.right.0
          (sym (owner a.links.now a.i _ c.requires.slot c.from.ensures) ∙ w.if-from-o.true) c.requires.some false
          (rw (ap not (sym (w.expired.ensures b v)) ∙ sym w.value-is ∙ c.if-not-expired.false))
      | else-from-o w ↦ held-not b a.links.now v a.i a.o a.right.0
          (λ e. w.if-from-o.false (owner a.links.now a.i _ c.requires.slot c.from.ensures ∙ e))
    ]
