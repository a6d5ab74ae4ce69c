-- `place`: the blocks, the record, the master.
use Rattle.call_make.proofs.Placing.{cap-asks, places_is}
use Rattle.call_make.proofs.make.place.Goals as goal

pub new_cap-requires : goal.new_cap-requires
new_cap-requires c = cap-asks c.requires c.hold.ensures c.«record».ensures

pub returns : goal.returns
returns c =
    let m = c.master_of.ensures in
    places_is c.requires c.hold.ensures c.«record».ensures m.cap m.next
    c.new_cap.ensures
