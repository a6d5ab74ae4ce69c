-- `check_blocks` meets its contract: the blocks of all objects, then the free list, then no record is left.
use native.Mathlib.Omega.{arith}
use Rattle.check_chains.proofs.Marking.{marks-blank, marks-after}
use Rattle.check_chains.proofs.Covers.{blank, in-with, covers-first, covers-second, covers-full}
use Rattle.check_chains.proofs.BlockChains.{blocks-inside, blocks-decided}
use Rattle.check_chains.proofs.blocks.check_blocks.Goals as goal

pub all_blocks-requires : goal.all_blocks-requires
all_blocks-requires c = record { links = omega arith; marks = marks-blank (blank 512) }

pub walk-requires : goal.walk-requires
walk-requires c =
    let call = c.all_blocks in
    let found = rw c.if-not-all_blocks.false at call.ensures in
    record {
      room = omega arith;
      marks = marks-after (marks-blank (blank 512)) call.auto.seen found;
    }

pub returns-then-walk : goal.returns-then-walk
returns-then-walk c =
    blocks-decided _ (covers-full (blocks-inside _) (in-with _ _ _ _) (blank 512)
    (rw c.if-not-all_blocks.false at c.all_blocks.ensures)
    (rw (c.from-head.ensures, c.if-walk.true) at c.walk.ensures) c.full.ensures)

pub returns-else-walk : goal.returns-else-walk
returns-else-walk c =
    rw c.if-walk.false (blocks-decided _ (covers-second (blocks-inside _) (in-with _ _ _ _) (blank 512)
    (rw c.if-not-all_blocks.false at c.all_blocks.ensures)
    (rw (c.from-head.ensures, c.if-walk.false) at c.walk.ensures)))

pub returns-then-not-all_blocks : goal.returns-then-not-all_blocks
returns-then-not-all_blocks c =
    blocks-decided _ (covers-first (blocks-inside _) (in-with _ _ _ _) (blank 512)
    (rw c.if-not-all_blocks.true at c.all_blocks.ensures))
