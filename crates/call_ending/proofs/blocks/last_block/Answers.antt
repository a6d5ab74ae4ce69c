-- `last_block` steps on from the first block, one step less than there are blocks.
use Prim.Native.Nat.{◌+◌}
use mathlib.Core.Path.{◌≡◌, ap, ◌∙◌}
use lib.ListN.{get_or}
use Rattle.rules.specs.Store.{blocks}
use Rattle.layout.specs.Layout as Layout
use Rattle.call_ending.proofs.Walking.{last-is, blocked-is}
use Rattle.call_ending.proofs.blocks.last_block.Goals as goal
use Rattle.call_ending.proofs.blocks.last_block.Goals.{After-blocks_of-n}

-- as many blocks as the size needs
n-is : (c : After-blocks_of-n) → c.blocks_of-n.result ≡ blocks (get_or c.args.links.now (Layout.SIZE + c.args.o) 0)
n-is c = c.blocks_of-n.ensures ∙ ap blocks c.from.ensures

pub block_at-requires : goal.block_at-requires
block_at-requires c =
    (c.requires.links, rw c.saturating_sub.ensures (blocked-is c.requires c.from-first.ensures (n-is (goal.at.block_at-requires c).After-blocks_of-n)))

pub returns : goal.returns
returns c =
    c.block_at.ensures ∙ rw c.saturating_sub.ensures
    (last-is c.requires c.from-first.ensures (n-is (goal.at.returns c).After-blocks_of-n))
