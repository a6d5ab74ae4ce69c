-- `apply_lock` stores the two XORed words of the target's lockword, or is stopped by 8.
use mathlib.Core.Path.{sym}
use Rattle.std.proofs.lemmas.Result.{err_from_is_err_and}
use Rattle.call_steps.proofs.Replying.{replies-refused, done-is}
use Rattle.call_marks.specs.Runs.{lock_run}
use Rattle.call_marks.proofs.Stops.{lock-done}
use Rattle.call_marks.proofs.lock.apply_lock.Goals as goal

pub returns-in_err-o : goal.returns-in_err-o
unfolding lock_run
returns-in_err-o c =
    let p = err_from_is_err_and c.from_residual.result c.from_residual.ensures.1 in
    rw (p.1, p.2) (replies-refused _ _ (sym c.in_err-o.ensures.code))

pub returns : goal.returns
returns c =
    done-is c.done.ensures
    (lock-done _ _ _ c.args.words.now c.in_ok-o.ensures.slot c.in_ok-o.ensures.code c.args.lock c.requires.target
    c.xor_words-x.result c.xor_words-x.ensures)
