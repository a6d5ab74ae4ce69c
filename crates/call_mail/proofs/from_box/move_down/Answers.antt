-- `move_down` moves texts, lengths and sums, each inside its box's part of the row.
use Prim.Native.Nat.{ℕ, ◌+◌, ◌-◌}
use mathlib.Core.List.{List}
use borrow.Rule.Slice.PartMut.{put_mid}
use native.Mathlib.Omega.{arith}
use Rattle.call_steps.specs.Copies.{Copied}
use Rattle.call_mail.specs.Runs.{text_from}
use Rattle.call_mail.proofs.Copying.{part-moved, copied-length}
use Rattle.call_mail.proofs.Stops.{moved-is}
use Rattle.call_mail.proofs.from_box.move_down.Goals as goal

pub returns : goal.returns
returns c =
    let a = c.args in
    let text : ℕ = text_from a.i in
    let part : List ℕ = c.copy_within.new.self in
    let texts : Copied 48 a.bytes.now (text + 16) a.bytes.now text (put_mid text (text + 64 - text) a.bytes.now part) =
    part-moved _ part text (text + 64) 16 64 48 (omega arith) (omega arith) (omega (arith, c.requires))
    c.copy_within.ensures.after in
    moved-is texts
    (part-moved _ _ _ _ 1 4 3 (omega arith) (omega arith) (omega (arith, copied-length texts, c.requires))
    c.copy_within-2.ensures.after)
    (part-moved _ _ _ _ 1 4 3 (omega arith) (omega arith) (omega (arith, c.requires)) c.copy_within-3.ensures.after)
