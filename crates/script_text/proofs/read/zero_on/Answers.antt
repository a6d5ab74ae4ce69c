-- `zero_on` wants a space, or the line's end.
use Rattle.script_text.proofs.Steps.{zero-space, zero-stop, zero-end}
use Rattle.script_text.proofs.read.zero_on.Goals as goal
use Rattle.script_text.proofs.read.zero_on.Goals.{else-at-line-via-then-at-line+else-line-at-ne32, else-at-line-via-else-at-line}
use native.Mathlib.Omega.{arith}

pub returns-then-line-at-ne32 : goal.returns-then-line-at-ne32
returns-then-line-at-ne32 c = zero-stop _ _ c.if-at-line.true c.if-line-at-ne32.true

pub returns : goal.returns
returns c =
    elim c.else-at-line.branch [
      | else-at-line-via-then-at-line+else-line-at-ne32 w ↦ zero-space _ _ w.if-at-line.true (omega (arith, w.if-line-at-ne32.false))
      | else-at-line-via-else-at-line w ↦ zero-end _ _ c.requires w.if-at-line.false
    ]
