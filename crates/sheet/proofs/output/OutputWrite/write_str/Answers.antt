-- `write_str` has put the text before what is left of it.
use Rattle.std.proofs.Common.{arith, length-append, sym, ◌∙◌}
use Rattle.sheet.proofs.Keeping.{kept-full, kept-all}
use Rattle.sheet.proofs.output.OutputWrite.write_str.Goals as goal

pub loop-rest-preserved : goal.loop-rest-preserved
loop-rest-preserved c =
    let s = c.split_at.ensures in
    kept-full c.loop-rest.self c.split_at.result.0.now c.split_at.result.1.now c.write_out.ensures s.by_index.0 (omega (arith, c.room-in-loop-rest.ensures, s.front_len))
    (omega (arith, c.room-in-loop-rest.ensures, c.room.ensures, s.back_len, c.loop-rest-test.true))
    ∙ c.loop-rest.invariant

pub returns-clause-kept : goal.returns-clause-kept
returns-clause-kept c =
    c.hold-2.ensures
    ∙ sym (kept-all _ (omega (arith, c.room.ensures, c.loop-rest-test.false, length-append c.loop-rest.self c.loop-rest.rest.now)))
    ∙ c.loop-rest.invariant
