-- `check_caps` meets its contract: the free list, then the trees of all objects, then no record is left.
use native.Mathlib.Omega.{arith}
use Rattle.check_chains.proofs.Marking.{marks-blank, marks-after}
use Rattle.check_chains.proofs.Covers.{blank, in-with, covers-first, covers-second, covers-full}
use Rattle.check_trees.proofs.CapTrees.{trees-inside, caps-decided}
use Rattle.check_trees.proofs.caps.check_caps.Goals as goal

pub walk_free-requires : goal.walk_free-requires
walk_free-requires c = record { room = omega arith; row_room = omega arith; blank = blank 512 }

pub all_trees-requires : goal.all_trees-requires
all_trees-requires c =
    let call = c.walk_free in
    let found = rw c.if-not-walk_free.false at call.ensures in
    record {
      links = omega arith;
      marks = marks-after (marks-blank (blank 512)) call.auto.seen found;
    }

pub returns-then-all_trees : goal.returns-then-all_trees
returns-then-all_trees c =
    caps-decided _ (covers-full (in-with _ _ _ _) (trees-inside _) (blank 512)
    (rw (c.from-head.ensures, c.if-not-walk_free.false) at c.walk_free.ensures)
    (rw c.if-all_trees.true at c.all_trees.ensures) c.full.ensures)

pub returns-else-all_trees : goal.returns-else-all_trees
returns-else-all_trees c =
    rw c.if-all_trees.false (caps-decided _ (covers-second (in-with _ _ _ _) (trees-inside _) (blank 512)
    (rw (c.from-head.ensures, c.if-not-walk_free.false) at c.walk_free.ensures)
    (rw c.if-all_trees.false at c.all_trees.ensures)))

pub returns-then-not-walk_free : goal.returns-then-not-walk_free
returns-then-not-walk_free c =
    caps-decided _ (covers-first (in-with _ _ _ _) (trees-inside _) (blank 512)
    (rw (c.from-head.ensures, c.if-not-walk_free.true) at c.walk_free.ensures))
