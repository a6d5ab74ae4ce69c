-- `one_blocks` meets its contract: a free object has no blocks, and a living one has a chain of as many as it needs.
use Rattle.check_chains.proofs.BlockChains.{blocks-dead, blocks-live}
use Rattle.check_chains.proofs.blocks.one_blocks.Goals as goal

pub returns-then-master-eq0 : goal.returns-then-master-eq0
returns-then-master-eq0 c =
    blocks-dead c.args.links.now c.args.o c.requires.low c.requires.high c.requires.marks
    c.if-master-eq0.true

pub returns : goal.returns
returns c =
    blocks-live c.args.links.now c.args.o c.requires.low c.requires.high _ _
    c.if-master-eq0.false c.from-first.ensures c.need-many.ensures c.counted.ensures
