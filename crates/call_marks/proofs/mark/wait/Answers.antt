-- `wait` stores the caller's waiting mark, where the caller's box is empty.
use Prim.Native.Nat.{ℕ, ◌+◌}
use mathlib.Core.Path.{◌≡◌, sym, ap, ◌∙◌}
use mathlib.Core.List.{List}
use lib.Dec.{eqb}
use lib.ListN.{get_or}
use borrow.Author.Tests.{eq-eqb, ne_eqb}
use Rattle.rules.proofs.Tests.{pick_yes, pick-not}
use Rattle.layout.specs.Layout as Layout
use Rattle.layout.specs.Rows.{count_of}
use Rattle.layout.proofs.Field.{row}
use Rattle.call_steps.specs.Run.{over}
use Rattle.call_steps.proofs.Replying.{done-is}
use Rattle.call_marks.specs.Runs.{wait_bytes, wait_run}
use Rattle.call_marks.proofs.mark.wait.Goals as goal
use Rattle.call_marks.proofs.mark.wait.Goals.{Joined-bytes-me-eq0, then-bytes-me-eq0, else-bytes-me-eq0}

-- the bytes, by either arm
waited : (c : Joined-bytes-me-eq0) → c.if-bytes-me-eq0.bytes ≡ wait_bytes c.args.bytes.now c.args.me
waited c = let b : List ℕ = c.args.bytes.now in
    let me : ℕ = c.args.me in
    let count : count_of b me ≡ get_or b (Layout.COUNT + me) 0 = row Layout.COUNT b me c.requires.fact_2 in
    elim c.if-bytes-me-eq0.branch [
      | then-bytes-me-eq0 w ↦ w.bytes-is ∙ sym (pick_yes (eqb (count_of b me) 0) _ _ (eq-eqb _ 0 (count ∙ w.if-bytes-me-eq0.true)))
      | else-bytes-me-eq0 w ↦ w.bytes-is
          ∙ sym (pick-not (eqb (count_of b me) 0) _ _ (ne_eqb _ 0 (λ z. w.if-bytes-me-eq0.false (sym count ∙ z))))
    ]

pub returns : goal.returns
unfolding wait_run
returns c l w = done-is c.done.ensures (ap (λ b. over 0 b l w) (waited (goal.at.returns c).Joined-bytes-me-eq0))
