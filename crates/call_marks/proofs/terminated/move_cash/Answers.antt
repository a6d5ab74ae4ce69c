-- `move_cash` stores what is left of one cash, and then the sum of the other.
use native.Mathlib.Omega.{arith}
use Rattle.call_marks.proofs.Stops.{moved-room, moved-is}
use Rattle.call_marks.proofs.terminated.move_cash.Goals as goal

pub overflow_add-words-2 : goal.overflow_add-words-2
overflow_add-words-2 c =
    let a = c.args in
    omega (
      arith,
      moved-room a.words.now a.me a.o a.sum c.less-left.result.0 c.requires.fact_2 c.requires.fact_3
          c.less-left.ensures c.requires.fact_4,
    )

pub returns : goal.returns
returns c =
    let a = c.args in
    moved-is a.words.now a.me a.o a.sum c.less-left.result.0 c.requires.fact_2 c.requires.fact_3
    c.less-left.ensures
