-- `play_line` answers a bad line, too.
use Rattle.script_play.proofs.Playing.{bad-played}
use Rattle.script_play.proofs.line.play_line.Goals as goal

pub returns-in-None-clause-plays : goal.returns-in-None-clause-plays
returns-in-None-clause-plays c = bad-played c.requires.asks.formed c.in-None.ensures c.bad_line.ensures
