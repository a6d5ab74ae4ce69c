-- `process_of` reads the target's flag.
use Rattle.call_marks.proofs.Stops.{no-process, a-process}
use Rattle.call_marks.proofs.process.process_of.Goals as goal

pub returns-then-bytes-o-eq0 : goal.returns-then-bytes-o-eq0
returns-then-bytes-o-eq0 c = record {
  slot = tt;
  code = no-process c.args.bytes.now c.args.links.now c.args.k c.target-o.ensures c.requires.target c.if-bytes-o-eq0.true;
}

pub returns : goal.returns
returns c = record {
  slot = c.target-o.ensures;
  code = a-process c.args.bytes.now c.args.links.now c.args.k c.target-o.ensures c.requires.target c.if-bytes-o-eq0.false;
}
