-- `copy_bytes` copies number after number, each a byte.
use native.Mathlib.Omega.{arith}
use Rattle.script_lines.proofs.Bytes.{bytes-from}
use Rattle.script_lines.proofs.Gathering.{copying-none, copying-more, copying-all}
use Rattle.script_lines.proofs.text.copy_bytes.Goals as goal

pub loop-i-init : goal.loop-i-init
loop-i-init c = copying-none _ _ _ c.requires.low

pub bounds-numbers-i : goal.bounds-numbers-i
bounds-numbers-i c = omega arith

pub overflow_cast-text : goal.overflow_cast-text
overflow_cast-text c =
    record { fits = omega (arith, bytes-from c.args.numbers.now c.args.from c.loop-i.i c.requires.bytes (omega (arith, c.loop-i.invariant.place)) c.loop-i-test.true) }

pub bounds-text-n : goal.bounds-text-n
bounds-text-n c = omega (arith, c.loop-i.invariant.place, c.loop-i.invariant.size, c.requires.room)

pub overflow_add-n : goal.overflow_add-n
overflow_add-n c = omega (arith, c.loop-i.invariant.place)

pub overflow_add-i : goal.overflow_add-i
overflow_add-i c = omega arith

pub loop-i-smaller : goal.loop-i-smaller
loop-i-smaller c = omega arith

pub loop-i-preserved : goal.loop-i-preserved
loop-i-preserved c =
    copying-more _ _ _ _ _ _ c.loop-i.invariant c.loop-i-test.true
    (omega (arith, c.loop-i.invariant.place, c.loop-i.invariant.size, c.requires.room))

pub shape_of-text : goal.shape_of-text
shape_of-text c = c.loop-i.invariant.size

pub returns : goal.returns
returns c = copying-all _ _ _ _ _ _ c.loop-i.invariant c.loop-i-test.false c.requires.room
