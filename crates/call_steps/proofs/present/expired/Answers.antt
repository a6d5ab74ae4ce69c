-- `expired` reads the last day and the store's.
use Rattle.call_steps.proofs.Holding.{expired-is}
use Rattle.call_steps.proofs.present.expired.Goals as goal

pub returns : goal.returns
returns c b w = rw (expired-is b c.args.links.now w c.args.k c.requires.fact_2)
