-- `send` is stopped by 8, 9 or 14; or it places the message and takes the sum from the caller's cash.
use Prim.Native.Nat.{◌+◌, ◌≤◌}
use mathlib.Core.Path.{refl, sym, ◌∙◌}
use native.Mathlib.Omega.{arith}
use lib.ListN.{get_or}
use borrow.Author.Tests.{le-leb, lt-leb}
use Rattle.rules.specs.Refusals.{◌when◌, first}
use Rattle.layout.specs.Layout as Layout
use Rattle.values.specs.declared.refusal.Refusal.TheVariants.{NotProcess, TooLittle, BoxFull}
use Rattle.call_steps.proofs.Replying.{refuses, refused-is, done-is}
use Rattle.call_mail.specs.Runs.{message_slot}
use Rattle.call_mail.proofs.Stops.{Sending, slot_of, send-met, send-done}
use Rattle.call_mail.proofs.to_box.send.Goals as goal
use Rattle.call_mail.proofs.to_box.send.Goals.{After-is_process, Else-count-ge-MAX_MESSAGES}

sending : (c : After-is_process) → Sending c.args.bytes.now c.args.links.now c.args.me c.args.k c.target-o.result c.is_process.result
sending c = record {
  caller = c.requires.caller;
  target = c.requires.target;
  found = c.target-o.ensures;
  process = c.is_process.ensures;
}

-- the slot of a message, where the box has room
below-259 : (c : Else-count-ge-MAX_MESSAGES) → message_slot c.target-o.result (get_or c.args.bytes.now (Layout.COUNT + c.target-o.result) 0) ≤ 259
below-259 c = omega (arith, (slot_of (record { caller = c.requires.caller; target = c.requires.target; found = c.target-o.ensures; process = c.is_process.ensures })).high, c.if-count-ge-MAX_MESSAGES.false)

pub returns-then-not-is_process : goal.returns-then-not-is_process
unfolding first ◌when◌
returns-then-not-is_process c =
    let a = c.args in
    refused-is (refuses NotProcess)
    (send-met (sending (goal.at.returns-then-not-is_process c).After-is_process) a.words.now a.sum a.text.now 8 c.if-not-is_process.true refl refl refl (omega arith))

pub returns-then-below : goal.returns-then-below
unfolding first ◌when◌
returns-then-below c =
    let a = c.args in
    refused-is (refuses TooLittle)
    (send-met (sending (goal.at.returns-then-below c).After-is_process) a.words.now a.sum a.text.now 9 c.if-not-is_process.false
    (sym c.below.ensures ∙ c.if-below.true) refl refl (omega arith))

pub returns-then-count-ge-MAX_MESSAGES : goal.returns-then-count-ge-MAX_MESSAGES
unfolding first ◌when◌
returns-then-count-ge-MAX_MESSAGES c =
    let a = c.args in
    refused-is (refuses BoxFull)
    (send-met (sending (goal.at.returns-then-count-ge-MAX_MESSAGES c).After-is_process) a.words.now a.sum a.text.now 14 c.if-not-is_process.false
    (sym c.below.ensures ∙ c.if-below.false) (le-leb 4 _ c.if-count-ge-MAX_MESSAGES.true) refl (omega arith))

pub returns : goal.returns
returns c =
    let a = c.args in
    done-is c.done.ensures
    (send-done (sending (goal.at.returns c).After-is_process) a.words.now a.sum a.text.now (rw c.from.ensures at c.place.ensures)
    c.less-left.ensures c.if-not-is_process.false
    (sym c.below.ensures ∙ c.if-below.false) (lt-leb 4 _ c.if-count-ge-MAX_MESSAGES.false))
