-- `check_objects` meets its contract: the free list, then the chain of the living, then no record is left.
use native.Mathlib.Omega.{arith}
use Rattle.check_chains.proofs.Marking.{marks-blank, marks-after}
use Rattle.check_chains.proofs.Covers.{blank, in-with, covers-first, covers-second, covers-full}
use Rattle.check_chains.proofs.ObjectChains.{objects-decided}
use Rattle.check_chains.proofs.objects.check_objects.Goals as goal

pub walk_free-requires : goal.walk_free-requires
walk_free-requires c = record { room = omega arith; row_room = omega arith; blank = blank 64 }

pub walk-requires : goal.walk-requires
walk-requires c =
    let call = c.walk_free in
    let found = rw c.if-not-walk_free.false at call.ensures in
    record {
      room = omega arith;
      marks = marks-after (marks-blank (blank 64)) call.auto.seen found;
    }

pub returns-then-walk : goal.returns-then-walk
returns-then-walk c =
    objects-decided _ (covers-full (in-with _ _ _ _) (in-with _ _ _ _) (blank 64)
    (rw (c.from-free.ensures, c.if-not-walk_free.false) at c.walk_free.ensures)
    (rw (c.from-head.ensures, c.if-walk.true) at c.walk.ensures) c.full.ensures)

pub returns-else-walk : goal.returns-else-walk
returns-else-walk c =
    rw c.if-walk.false (objects-decided _ (covers-second (in-with _ _ _ _) (in-with _ _ _ _) (blank 64)
    (rw (c.from-free.ensures, c.if-not-walk_free.false) at c.walk_free.ensures)
    (rw (c.from-head.ensures, c.if-walk.false) at c.walk.ensures)))

pub returns-then-not-walk_free : goal.returns-then-not-walk_free
returns-then-not-walk_free c =
    objects-decided _ (covers-first (in-with _ _ _ _) (in-with _ _ _ _) (blank 64)
    (rw (c.from-free.ensures, c.if-not-walk_free.true) at c.walk_free.ensures))
