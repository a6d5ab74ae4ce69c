-- `right_held` reads the rights.
use Rattle.call_steps.proofs.Holding.{rights-is}
use Rattle.call_steps.proofs.present.right_held.Goals as goal

pub returns : goal.returns
returns c b w = rw (rights-is b c.args.links.now w c.args.k c.requires.fact_2) c.has.ensures
