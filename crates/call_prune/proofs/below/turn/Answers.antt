-- `turn` is one turn by its two tests.
use Rattle.call_prune.proofs.Stores.{turn-down, turn-over, turn_up}
use Rattle.call_prune.proofs.below.turn.Goals as goal

pub returns-then-child-ne0 : goal.returns-then-child-ne0
returns-then-child-ne0 c = turn-down c.requires c.args.k _ c.from-child.ensures c.if-child-ne0.true

pub returns-then-j-k : goal.returns-then-j-k
returns-then-j-k c = turn-over c.requires c.args.k _ c.from-child.ensures c.if-child-ne0.false c.if-j-k.true

pub returns : goal.returns
returns c =
    turn_up c.requires c.args.k _ c.from-child.ensures c.if-child-ne0.false
    c.if-j-k.false _ c.from-up.ensures _ c.drop_leaf.ensures
