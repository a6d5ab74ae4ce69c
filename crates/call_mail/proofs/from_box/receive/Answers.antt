-- `receive` is stopped by 15; or it copies the oldest message out, takes its sum and moves the others down.
use Prim.Native.Nat.{◌+◌, ◌*◌, ◌≤◌}
use native.Mathlib.Omega.{arith}
use lib.ListN.{get_or}
use Rattle.layout.specs.Layout as Layout
use Rattle.values.specs.declared.refusal.Refusal.TheVariants.{BoxEmpty}
use Rattle.call_steps.proofs.Replying.{refuses, fills-refused}
use Rattle.call_mail.proofs.Receiving.{oldest-short, oldest-fits, receive-met, receive-done}
use Rattle.call_mail.proofs.from_box.receive.Goals as goal
use Rattle.call_mail.proofs.from_box.receive.Goals.{Else-count-eq0}

-- of the oldest message: its length, and the cash that it makes
short : (c : Else-count-eq0) → get_or c.args.bytes.now (Layout.LENGTH + c.args.me * 4) 0 ≤ 16
short c = oldest-short c.requires c.if-count-eq0.false

fits : (c : Else-count-eq0) → get_or c.args.words.now (Layout.CASH + c.args.me) 0 + get_or c.args.words.now (Layout.SUM + c.args.me * 4) 0 ≤ 4294967295
fits c = oldest-fits c.requires c.if-count-eq0.false

pub returns-then-count-eq0 : goal.returns-then-count-eq0
returns-then-count-eq0 c l = fills-refused _ (refuses BoxEmpty) (receive-met c.requires c.if-count-eq0.true l)

pub overflow_add-words : goal.overflow_add-words
overflow_add-words c = omega (arith, fits (goal.at.overflow_add-words c).Else-count-eq0)

pub returns : goal.returns
returns c l = receive-done c.requires c.if-count-eq0.false (rw c.from.ensures at c.copy.ensures) c.move_down.ensures
    (rw c.from-2.ensures at c.hands_over.ensures) l
