-- `before` looks for o's link in the row of the objects' links.
use Rattle.call_ending.proofs.Walking.{before-found}
use Rattle.call_ending.proofs.object.before.Goals as goal

pub returns : goal.returns
returns c =
    let e = c.last_place.ensures in
    before-found c.args.links.now c.args.o c.last_place.result c.requires.links e.in_row e.stands e.nowhere_behind
