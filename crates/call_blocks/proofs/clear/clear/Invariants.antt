-- `clear` clears block after block.
use Rattle.layout.specs.Rows.{next_block_of}
use Rattle.call_blocks.specs.Taking.{free_head}
use Rattle.call_blocks.proofs.Walking.{Passing}
use Rattle.call_blocks.proofs.Walking.{Clearing}
use Rattle.call_blocks.proofs.clear.clear.Given as goal

abbrev pub invariant-loop : goal.invariant-loop
invariant-loop l = Clearing (next_block_of l.links) (free_head l.links) l.n l.initial.bytes l.bytes l.counter l.block × Passing l.links l.counter l.block l.last
