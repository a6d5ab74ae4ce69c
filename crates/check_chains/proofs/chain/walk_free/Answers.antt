-- `walk_free` meets its contract: the chain is there, and it has marked just the free records.
use Rattle.check_chains.proofs.Marking.{marks-blank, marks-after}
use Rattle.check_chains.proofs.Chains.{free-chain-is, free-chain-broken}
use Rattle.check_chains.proofs.chain.walk_free.Goals as goal

pub walk-requires : goal.walk-requires
walk-requires c = record { room = c.requires.room; marks = marks-blank c.requires.blank }

pub free_marked-requires : goal.free_marked-requires
free_marked-requires c =
    let call = c.walk in
    let found = rw c.if-walk.true at call.ensures in
    record {
      room = c.requires.row_room;
      marks = marks-after (marks-blank c.requires.blank) call.auto.seen found;
    }

pub returns-then-walk : goal.returns-then-walk
returns-then-walk c =
    free-chain-is _ _ _ _ c.requires.blank
    (rw c.if-walk.true at c.walk.ensures) c.free_marked.ensures

pub returns-else-walk : goal.returns-else-walk
returns-else-walk c = rw c.if-walk.false (free-chain-broken _ _ _ _ (rw c.if-walk.false at c.walk.ensures))
