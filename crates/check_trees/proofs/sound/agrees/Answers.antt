-- `agrees` meets its contract: the cells of record j are those that its neighbours say.
use mathlib.Core.Path.{◌≡◌, sym, ◌∙◌}
use mathlib.Core.List.{List}
use Prim.Native.Nat.{ℕ, ◌+◌, ◌≤◌}
use native.Mathlib.Omega.{arith}
use mathlib.Core.Bool.{false≢true, true≢false}
use borrow.Author.Tests.{eq-eqb, ne_eqb, eqb-true}
use lib.ListN.{get_or}
use Rattle.layout.specs.Layout as Layout
use Rattle.layout.specs.Rows.{field}
use Rattle.layout.proofs.Field.{field_in}
use Rattle.layout.proofs.Deciding.{no-it}
use Rattle.check_trees.proofs.sound.agrees.Goals as goal
use Rattle.check_trees.proofs.sound.agrees.Goals.{then-links-i, else-links-i}

-- a cell of record j that is what the field is
cell : (off : ℕ) (l : List ℕ) (j : ℕ) {x : ℕ} → 1 ≤ j → j ≤ 512 → field 512 off l j ≡ x
    → get_or l (off + j) 0 ≡ x
cell off l j low high e = sym (field_in 512 off l j low high) ∙ e

pub returns-then-j-eq0 : goal.returns-then-j-eq0
returns-then-j-eq0 c = no-it (λ a. omega (arith, a.low, a.high, c.then-j-eq0.either))

pub returns-then-links-i-2 : goal.returns-then-links-i-2
returns-then-links-i-2 c =
    let low : 1 ≤ c.args.j = omega (arith, c.if-j-eq0.false) in
    let high : c.args.j ≤ 512 = c.if-j-gt-LAST.false in
    elim c.if-links-i.branch [
      | then-links-i w ↦
          rw c.from-i.ensures (record {
            sound = λ e. record {
              low = low;
              high = high;
              owner-is = field_in 512 Layout.OWNER _ _ low high ∙ (rw c.from-i.ensures at w.if-links-i.true);
              parent_is =
                  field_in 512 Layout.PARENT _ _ low high
                  ∙ eqb-true _ _ (rw c.from-i.ensures at (sym w.value-is ∙ c.if-links-i-2.true));
              prev-is = field_in 512 Layout.PREV_CAP _ _ low high ∙ eqb-true _ _ e;
            };
            complete = λ a. eq-eqb _ _ (cell Layout.PREV_CAP _ _ low high a.prev-is);
          })
      | else-links-i w ↦ absurd (false≢true (sym (ne_eqb _ _ w.if-links-i.false) ∙ sym w.value-is ∙ c.if-links-i-2.true))
    ]

pub returns-else-links-i-2 : goal.returns-else-links-i-2
returns-else-links-i-2 c = rw c.if-links-i-2.false (elim c.if-links-i.branch [
  | then-links-i w ↦ no-it (λ a. true≢false (
      sym (eq-eqb _ _ (cell Layout.PARENT _ _ a.low a.high a.parent_is))
      ∙ (rw c.from-i.ensures at (sym w.value-is ∙ c.if-links-i-2.false))
      ))
  | else-links-i w ↦ no-it (λ a. (rw c.from-i.ensures at w.if-links-i.false) (cell Layout.OWNER _ _ a.low a.high a.owner-is))
])
