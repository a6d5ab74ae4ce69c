-- `read_numbers` has read the numbers before its place, and knows what the rest may say.
use native.Mathlib.Omega.{arith}
use Rattle.script_text.proofs.Steps.{filling-none, filling-last, filling-more, filling-bad, filling-full}
use Rattle.script_text.proofs.read.read_numbers.Goals as goal

pub loop-count-init : goal.loop-count-init
loop-count-init c = filling-none _ _

pub returns-in_err-n : goal.returns-in_err-n
returns-in_err-n c =
    rw c.from_residual.ensures (filling-bad _ _ _ _ _ c.loop-count.invariant c.in_err-n.ensures)

pub returns-then-n-line : goal.returns-then-n-line
returns-then-n-line c =
    filling-last _ _ _ _ _ c.loop-count.invariant _ c.in_ok-n.ensures (omega arith) c.if-n-line.true

pub overflow_add-at : goal.overflow_add-at
overflow_add-at c = omega (arith, c.in_ok-n.ensures.within)

pub loop-count-preserved : goal.loop-count-preserved
loop-count-preserved c =
    filling-more _ _ _ _ _ c.loop-count.invariant _ c.in_ok-n.ensures (omega arith) c.if-n-line.false

pub returns : goal.returns
returns c = filling-full _ _ _ _ _ c.loop-count.invariant (omega arith)
