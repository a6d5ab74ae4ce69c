-- `first_line` goes by whether the line starts a store.
use Rattle.script_driver.proofs.Linking.{first_good, first-refused}
use Rattle.script_driver.proofs.line.first_line.Goals as goal

pub returns-then-start-clause-line : goal.returns-then-start-clause-line
returns-then-start-clause-line c = first_good c.start.ensures.starts c.if-start.true

pub returns-clause-line : goal.returns-clause-line
returns-clause-line c = first-refused c.start.ensures.starts c.if-start.false c.requires.formed
