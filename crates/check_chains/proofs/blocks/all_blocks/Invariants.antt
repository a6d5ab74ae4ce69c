-- `all_blocks` meets its contract: whatever the blocks of the objects 1 to o are found to be, so are those of all.
use Prim.Native.Nat.{◌≤◌}
use Rattle.check_chains.specs.Parts.{blocks_of_all}
use Rattle.check_chains.proofs.Marking.{Going}
use Rattle.check_chains.proofs.blocks.all_blocks.Given as goal

abbrev pub invariant-loop-o : goal.invariant-loop-o
invariant-loop-o l = (l.o ≤ 64) × Going 512 (blocks_of_all l.links l.o) l.seen (blocks_of_all l.links 64) l.initial.seen
