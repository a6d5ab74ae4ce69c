-- `read_by_hook` makes the call, and turns what it gives; where the call is refused, no byte is turned.
use native.Mathlib.Omega.{arith}
use Rattle.std.proofs.lemmas.Result.{err_from_is_err_and}
use Rattle.kernel_call.proofs.Calling.{count_fits}
use Rattle.product_hooks.proofs.Hooking.{front-unread, hooked-out}
use Rattle.product_hooks.proofs.read_by_hook.Goals as goal

pub turn_front-requires : goal.turn_front-requires
turn_front-requires c = omega (arith, count_fits c.in_ok-given.ensures)

pub returns-in_err-given : goal.returns-in_err-given
returns-in_err-given c =
    let p = err_from_is_err_and c.from_residual.result c.from_residual.ensures.1 in
    rw (p.1, p.2) (hooked-out c.read-req.ensures c.call.auto.scratch c.in_err-given.ensures (front-unread _))

pub returns : goal.returns
returns c = hooked-out c.read-req.ensures c.call.auto.scratch c.in_ok-given.ensures c.turn_front.ensures
