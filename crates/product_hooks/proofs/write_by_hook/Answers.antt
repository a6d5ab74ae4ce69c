-- `write_by_hook` turns a copy of the text, and makes the call; a text that is too long is handed on.
use mathlib.Core.Path.{refl}
use native.Mathlib.Omega.{arith}
use Rattle.rules.specs.Rights.{op}
use Rattle.call_steps.specs.Request.{presenting_request}
use Rattle.product_hooks.proofs.Hooking.{hooked-short, hooked-long}
use Rattle.product_hooks.proofs.write_by_hook.Goals as goal

pub returns-then-text-le-MAX_PATTERN : goal.returns-then-text-le-MAX_PATTERN
returns-then-text-le-MAX_PATTERN c =
    hooked-short c.write-req.ensures _ refl c.copy_from_slice.ensures.after c.turn_front.ensures
    c.call.auto.buffer c.call.auto.scratch c.call.ensures

pub returns : goal.returns
unfolding op presenting_request
returns c =
    hooked-long c.write-req.ensures refl (omega (arith, c.if-text-le-MAX_PATTERN.false)) c.call-2.auto.buffer c.call-2.auto.scratch
    c.call-2.ensures
