-- `finish` plays what is held, if anything, and writes the end.
use Rattle.script_driver.proofs.Linking.{finish-none, finish-last}
use Rattle.script_driver.proofs.finish.Goals as goal

pub returns-then-run-eq0-clause-finishing : goal.returns-then-run-eq0-clause-finishing
returns-then-run-eq0-clause-finishing c = finish-none c.requires.asks c.if-run-eq0.true c.put_end.ensures c.put_end.auto.out

pub returns-clause-finishing : goal.returns-clause-finishing
returns-clause-finishing c =
    finish-last c.requires.asks c.if-run-eq0.false c.one_line-last.ensures.line c.put_end-2.ensures c.put_end-2.auto.out c.one_line-last.auto.out
