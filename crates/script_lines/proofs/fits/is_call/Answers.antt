-- `is_call` tests both ends.
use Rattle.rules.specs.Script.{is_call}
use Rattle.script_lines.proofs.Bytes.{within-ends}
use Rattle.script_lines.proofs.fits.is_call.Goals as goal

pub returns : goal.returns
unfolding is_call
returns c =
    rw (c.contains.ensures.value, c.new.ensures.exhausted, c.new.ensures.start, c.new.ensures.end)
    (within-ends 1 17 c.args.number)
