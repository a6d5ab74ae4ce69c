-- `block_at` steps on n times.
use mathlib.Core.Path.{◌≡◌}
use Rattle.layout.specs.Rows.{next_block_of}
use Rattle.call_blocks.specs.Walk.{hop}
use Rattle.call_blocks.proofs.chain.block_at.Given as goal

abbrev pub invariant-loop : goal.invariant-loop
invariant-loop l = l.block ≡ hop (next_block_of l.links) l.counter l.head
