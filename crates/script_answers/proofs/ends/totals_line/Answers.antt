-- `totals_line` writes the four totals, of which none is above the money total.
use mathlib.Core.Path.{refl}
use native.Mathlib.Omega.{arith}
use Rattle.layout.specs.View.{view}
use Rattle.script_answers.proofs.Totals.{Parts, parts, totals-put}
use Rattle.script_answers.proofs.ends.totals_line.Goals as goal
use Rattle.script_answers.proofs.ends.totals_line.Goals.{Start}

fit : (c : Start) → Parts (view c.args.bytes.now c.args.links.now c.args.words.now)
fit c = parts (view c.args.bytes.now c.args.links.now c.args.words.now) c.requires.total

pub overflow_cast-numbers : goal.overflow_cast-numbers
overflow_cast-numbers c =
    record { fits = omega (arith, c.all_cash-cash.ensures.is, (fit (goal.at.overflow_cast-numbers c).Start).cash) }

pub overflow_cast-numbers-2 : goal.overflow_cast-numbers-2
overflow_cast-numbers-2 c =
    record { fits = omega (arith, (c.all_masters-masters.ensures c.args.bytes.now).is, (fit (goal.at.overflow_cast-numbers-2 c).Start).masters) }

pub overflow_cast-numbers-3 : goal.overflow_cast-numbers-3
overflow_cast-numbers-3 c =
    record { fits = omega (arith, c.all_boxes-boxes.ensures.is, (fit (goal.at.overflow_cast-numbers-3 c).Start).boxes) }

pub returns : goal.returns
unfolding view
returns c =
    totals-put (view c.args.bytes.now c.args.links.now c.args.words.now) _ _ _ _ _ _ _ _ _ _ _ _ c.all_cash-cash.ensures.is (c.all_masters-masters.ensures c.args.bytes.now).is
    c.all_boxes-boxes.ensures.is refl (omega (arith, c.requires.room)) c.put_byte-p.ensures c.put_after-q.ensures c.put_byte.ensures
