-- `ended` plays the line where it lies whole, or what is held with the rest.
use mathlib.Core.Path.{◌∙◌}
use Rattle.script_driver.proofs.Linking.{ended-whole, ended_held}
use Rattle.script_driver.proofs.line.ended.Goals as goal

pub returns-then-run-eq0-clause-line : goal.returns-then-run-eq0-clause-line
returns-then-run-eq0-clause-line c = ended-whole c.if-run-eq0.true c.requires.asks.hold.size c.one_line.ensures.line

pub returns-clause-line : goal.returns-clause-line
returns-clause-line c = ended_held c.hold-n.ensures (c.hold-n.auto.held ∙ c.requires.asks.hold.size) c.one_line-2.ensures.line
