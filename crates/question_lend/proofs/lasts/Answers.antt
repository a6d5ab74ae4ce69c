-- `lasts` reads the last day.
use mathlib.Core.Path.{sym, ap, ◌∙◌}
use lib.Dec.{leb}
use Rattle.call_steps.proofs.Holding.{last-day-is}
use Rattle.question_lend.proofs.lasts.Goals as goal

pub returns : goal.returns
returns c b w =
    ap (leb c.args.last_day) (c.from.ensures ∙ sym (last-day-is b c.args.links.now w c.args.k c.requires.fact_2))
