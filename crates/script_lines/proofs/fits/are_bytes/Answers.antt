-- `are_bytes` has passed bytes alone.
use mathlib.Core.Path.{refl, sym, ◌∙◌}
use native.Mathlib.Omega.{arith}
use Rattle.script_lines.proofs.Bytes.{bytes-more, bytes-stop, bytes-end}
use Rattle.script_lines.proofs.fits.are_bytes.Goals as goal

pub loop-i-init : goal.loop-i-init
loop-i-init c = refl

pub bounds-numbers-i : goal.bounds-numbers-i
bounds-numbers-i c = omega arith

pub returns-then-numbers-i-gt-MAX_BYTE : goal.returns-then-numbers-i-gt-MAX_BYTE
returns-then-numbers-i-gt-MAX_BYTE c =
    sym (c.loop-i.invariant ∙ bytes-stop _ _ c.loop-i-test.true c.if-numbers-i-gt-MAX_BYTE.true)

pub overflow_add-i : goal.overflow_add-i
overflow_add-i c = omega arith

pub loop-i-smaller : goal.loop-i-smaller
loop-i-smaller c = omega arith

pub loop-i-preserved : goal.loop-i-preserved
loop-i-preserved c = c.loop-i.invariant ∙ bytes-more _ _ c.loop-i-test.true c.if-numbers-i-gt-MAX_BYTE.false

pub returns : goal.returns
returns c = sym (c.loop-i.invariant ∙ bytes-end _ _ c.loop-i-test.false)
