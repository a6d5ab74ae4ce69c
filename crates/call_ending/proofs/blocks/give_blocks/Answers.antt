-- `give_blocks` stores to the last block and to the head.
use Rattle.call_ending.proofs.Walking.{given_is}
use Rattle.call_ending.proofs.blocks.give_blocks.Goals as goal

pub returns : goal.returns
returns c = given_is c.requires c.last_block-last.ensures c.instead-head.ensures
