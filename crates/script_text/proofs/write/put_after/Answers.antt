-- `put_after` has written the numbers passed, each with its space.
use mathlib.Core.Path.{◌∙◌}
use native.Mathlib.Omega.{arith}
use Rattle.script_text.proofs.Pasting.{putting-none, putting-more, putting-all}
use Rattle.script_text.proofs.write.put_after.Goals as goal

pub loop-number-init : goal.loop-number-init
loop-number-init c = putting-none _ _ _

pub put_byte-q-requires : goal.put_byte-q-requires
put_byte-q-requires c = omega (arith, c.loop-number.invariant.room, c.loop-number.invariant.size)

pub put_number-p-requires : goal.put_number-p-requires
put_number-p-requires c =
    omega (arith, c.loop-number.invariant.room, c.loop-number.invariant.size, c.put_byte-q.ensures.end, c.put_byte-q.auto.out)

pub loop-number-preserved : goal.loop-number-preserved
loop-number-preserved c =
    putting-more _ _ _ _ _ _ _ _ _ _ c.loop-number.invariant (omega arith) (omega arith)
    (omega (arith, c.type_inv.numbers c.loop-number.number-index))
    c.put_byte-q.ensures c.put_number-p.ensures.wrote (c.put_number-p.auto.out ∙ c.put_byte-q.auto.out)

pub returns : goal.returns
returns c = putting-all _ _ _ _ _ _ c.loop-number.invariant (omega arith)
