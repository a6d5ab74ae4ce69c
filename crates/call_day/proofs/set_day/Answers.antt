-- `set_day` tests 2 and 20, then stores.
use mathlib.Core.Path.{refl}
use Rattle.values.specs.declared.refusal.Refusal.TheVariants.{OutOfRange, EarlierDay}
use Rattle.call_steps.proofs.Replying.{replies-refused, replies-done, done-is}
use Rattle.call_day.specs.Runs.{day_run}
use Rattle.call_day.proofs.Stops.{day-high, day-before, day-goes}
use Rattle.call_day.proofs.set_day.Goals as goal

pub returns-then-day-gt-MAX_DAY : goal.returns-then-day-gt-MAX_DAY
unfolding day_run
returns-then-day-gt-MAX_DAY c b w =
    replies-refused _ OutOfRange (day-high b c.args.links.now w c.args.day c.if-day-gt-MAX_DAY.true)

pub returns-then-new-links : goal.returns-then-new-links
unfolding day_run
returns-then-new-links c b w =
    replies-refused _ EarlierDay (day-before b c.args.links.now w c.args.day c.if-day-gt-MAX_DAY.false c.if-new-links.true)

pub returns : goal.returns
unfolding day_run
returns c b w =
    replies-done b c.args.links.now w _ (day-goes b c.args.links.now w c.args.day c.if-day-gt-MAX_DAY.false c.if-new-links.false)
    (done-is c.done.ensures refl)
