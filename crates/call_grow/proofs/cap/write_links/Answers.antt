-- `write_links` takes the record out of the free list and writes its links.
use Rattle.layout.specs.Layout as Layout
use Rattle.layout.proofs.Field.{field_in}
use Rattle.call_grow.specs.Made.{new_links}
use Rattle.call_grow.proofs.cap.write_links.Goals as goal

pub returns : goal.returns
unfolding new_links
returns c =
    let a = c.args in
    let slot = c.requires.slot in
    rw (field_in 512 Layout.NEXT_CAP a.links.now a.i slot.low slot.high)
