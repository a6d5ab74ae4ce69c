-- `add_child` makes the record and links it before the first child.
use Rattle.call_grow.specs.Made.{cap_of}
use Rattle.call_derive.proofs.Stops.{added}
use Rattle.call_derive.proofs.child.add_child.Goals as goal

pub returns : goal.returns
returns c =
    let a = c.args in
    added a.links.now a.words.now a.k (cap_of a.x) a.x.next a.limit _ c.new_cap-i.result c.from-next.result
    _ _ c.requires.slot c.new_cap-i.ensures c.from-next.ensures c.at_most-purse.ensures
