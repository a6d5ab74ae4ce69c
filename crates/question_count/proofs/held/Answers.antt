-- `held` has counted the slots below i.
use Prim.Native.Nat.{◌-◌}
use mathlib.Core.Path.{◌≡◌, refl, sym, ◌∙◌}
use mathlib.Core.List.{[]}
use native.Mathlib.Omega.{arith}
use Rattle.rules.specs.Slots.{one, sum_over, count_over}
use Rattle.layout.specs.View.{view}
use Rattle.question_count.specs.Holding.{holds, holding_at}
use Rattle.question_count.proofs.Counting.{count-most, count-next}
use Rattle.question_count.proofs.held.Goals as goal
use Rattle.question_count.proofs.held.Goals.{then-holds, else-holds}

pub loop-i-init : goal.loop-i-init
unfolding count_over sum_over
loop-i-init c b w = refl

pub overflow_add-count : goal.overflow_add-count
overflow_add-count c =
    let l = c.loop-i in
    omega (arith, l.invariant [] [], count-most (l.i - 1) (holds (view [] c.args.links.now []) c.args.o c.args.right.0))

pub loop-i-preserved : goal.loop-i-preserved
unfolding one
loop-i-preserved c b v =
    let l = c.loop-i in
    count-next (holds (view b c.args.links.now v) c.args.o c.args.right.0) l.i l.count _ (omega arith) (l.invariant b v)
    (elim c.if-holds.branch [
      | then-holds w ↦ rw (sym (c.holds.ensures b v) ∙ w.if-holds.true) w.count-is
      | else-holds w ↦ rw (sym (c.holds.ensures b v) ∙ w.if-holds.false) (w.count-is ∙ omega arith)
    ])

pub returns : goal.returns
unfolding holding_at
returns c b v =
    let whole : c.loop-i.i - 1 ≡ 512 = omega arith in
    rw whole at (c.loop-i.invariant b v)
