-- `set_suspended` stores the target's mark, or is stopped by 8.
use mathlib.Core.Path.{sym}
use Rattle.std.proofs.lemmas.Result.{err_from_is_err_and}
use Rattle.call_steps.proofs.Replying.{replies-refused, done-is}
use Rattle.call_marks.specs.Runs.{suspended_run}
use Rattle.call_marks.proofs.Stops.{suspended-done}
use Rattle.call_marks.proofs.mark.set_suspended.Goals as goal

pub returns-in_err-o : goal.returns-in_err-o
unfolding suspended_run
returns-in_err-o c w =
    let p = err_from_is_err_and c.from_residual.result c.from_residual.ensures.1 in
    rw (p.1, p.2) (replies-refused _ _ (sym c.in_err-o.ensures.code))

pub returns : goal.returns
returns c w =
    rw c.from.ensures
    (done-is c.done.ensures (suspended-done _ _ _ w c.in_ok-o.ensures.slot c.in_ok-o.ensures.code _))
