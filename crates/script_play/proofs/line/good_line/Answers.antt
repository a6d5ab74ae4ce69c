-- `good_line` makes the call of the line's numbers and writes its answer.
use mathlib.Core.Path.{◌∙◌}
use Rattle.script_play.proofs.Playing.{counted, good-played}
use Rattle.script_play.proofs.line.good_line.Goals as goal

pub answer_line-requires : goal.answer_line-requires
answer_line-requires c =
    record {
      counted = counted c.step-reply.ensures (c.step-reply.auto.buffer ∙ c.requires.working.lent.buffer);
      room = c.requires.asks.room;
    }

pub returns-clause-played : goal.returns-clause-played
returns-clause-played c =
    good-played _ _ _ _ _ _ _ _ _ _ _ _ _ _ _ _ _ _ _ c.requires.fits.fits c.request_of-req.ensures c.text_of-n.ensures.is
    c.requires.working.lent.buffer c.requires.working.lent.scratch c.step-reply.ensures c.answer_line.ensures
