-- `answer_line` writes the line's number, the others and the end.
use native.Mathlib.Omega.{arith}
use Rattle.script_text.proofs.Numerals.{long-length}
use Rattle.script_answers.proofs.Gathering.{line-pushed}
use Rattle.script_answers.proofs.answer.answer_line.Goals as goal

pub put_digits-p-requires : goal.put_digits-p-requires
put_digits-p-requires c = omega (arith, long-length c.args.line (omega arith))

pub push_answer-q-requires : goal.push_answer-q-requires
push_answer-q-requires c =
    record {
      counted = c.requires.counted;
      room = omega (arith, c.put_digits-p.ensures.end, long-length c.args.line (omega arith), c.put_digits-p.auto.out, c.requires.room);
    }

pub put_byte-requires : goal.put_byte-requires
put_byte-requires c =
    omega (
      arith,
      c.push_answer-q.ensures.room,
      c.push_answer-q.auto.out,
      c.put_digits-p.ensures.end,
      c.put_digits-p.auto.out,
      long-length c.args.line (omega arith),
      c.requires.room,
    )

pub returns : goal.returns
returns c =
    line-pushed _ _ _ _ _ _ _ _ _ _ (omega arith) (omega arith) c.put_digits-p.ensures c.push_answer-q.ensures
    c.put_byte.ensures
