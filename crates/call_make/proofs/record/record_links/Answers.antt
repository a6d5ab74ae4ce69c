-- `record_links` stores cell after cell.
use Rattle.call_make.proofs.Stops.{links-recorded}
use Rattle.call_make.proofs.record.record_links.Goals as goal

pub returns : goal.returns
returns c = links-recorded c.args.links.now c.args.o c.args.serial c.args.size c.args.master c.requires.slot
