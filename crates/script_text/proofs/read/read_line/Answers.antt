-- `read_line` reads no long line.
use Rattle.script_text.proofs.Sayings.{line-long, line-read}
use Rattle.script_text.proofs.read.read_line.Goals as goal

pub returns-then-line-gt-LONGEST : goal.returns-then-line-gt-LONGEST
returns-then-line-gt-LONGEST c = line-long _ _ c.if-line-gt-LONGEST.true

pub returns : goal.returns
returns c =
    rw c.unwrap_or.ensures (line-read _ _ _ _ c.read_numbers.ensures c.if-line-gt-LONGEST.false c.requires)
