-- `one_line` goes by where the script stands.
use Rattle.script_driver.proofs.Linking.{one-bad, one-first, one_later}
use Rattle.script_driver.proofs.line.one_line.Goals as goal

pub returns-then-run-clause-line : goal.returns-then-run-clause-line
returns-then-run-clause-line c = one-bad c.if-run.true c.requires.asks.formed

pub returns-then-run-eq0-clause-line : goal.returns-then-run-eq0-clause-line
returns-then-run-eq0-clause-line c = one-first c.if-run.false c.if-run-eq0.true c.first_line.ensures.line

pub returns-clause-line : goal.returns-clause-line
returns-clause-line c = one_later c.if-run.false c.if-run-eq0.false c.play_line-p.ensures.plays
