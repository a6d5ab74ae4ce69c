-- `no_digit_on` wants a space.
use Rattle.script_text.proofs.Steps.{no-digit-space, no-digit-stop}
use Rattle.script_text.proofs.read.no_digit_on.Goals as goal

pub returns-then-line-end-eq32 : goal.returns-then-line-end-eq32
returns-then-line-end-eq32 c = no-digit-space _ _ _ c.requires c.if-line-end-eq32.true

pub returns : goal.returns
returns c = no-digit-stop _ _ _ c.requires c.if-line-end-eq32.false
