-- `play_line` feeds the line, with room for its answer.
use Rattle.script_play.proofs.Lending.{works-on}
use Rattle.sheet.proofs.Going.{line-done}
use Rattle.sheet.proofs.lines.play_line.Goals as goal

pub returns-clause-done : goal.returns-clause-done
returns-clause-done c = line-done _ c.feed.ensures.feeding (works-on c.feed.ensures.lent c.requires.stands.working)
