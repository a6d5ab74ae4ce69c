-- `put_end` goes by where the script stands.
use Rattle.script_driver.proofs.Linking.{end-bad, end-absent, end-totals}
use Rattle.script_driver.proofs.put_end.Goals as goal
use Rattle.script_driver.proofs.put_end.Goals.{then-run-via-then-run, then-run-via-else-run+then-run-eq0}

pub returns-then-run : goal.returns-then-run
returns-then-run c =
    elim c.then-run.branch [
      | then-run-via-then-run w ↦ end-bad w.if-run.true c.bad_line.ensures
      | then-run-via-else-run+then-run-eq0 w ↦ end-absent w.if-run.false w.if-run-eq0.true c.bad_line.ensures
    ]

pub returns : goal.returns
returns c = end-totals c.if-run.false c.if-run-eq0.false c.totals_line.ensures
