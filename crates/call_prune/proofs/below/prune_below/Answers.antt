-- `prune_below` takes turn after turn; the number of turns left falls.
use Rattle.std.proofs.Common.{◌∙◌, sym}
use Rattle.call_prune.proofs.Pruning.{turn-placed}
use Rattle.call_prune.proofs.Measuring.{left-falls, turning-start, turning-at, turning-more, turning-end, turn-on}
use Rattle.call_prune.proofs.below.prune_below.Goals as goal

pub loop-next-init : goal.loop-next-init
loop-next-init c = (turning-start c.requires, turning-at c.requires)

pub turn-requires : goal.turn-requires
turn-requires c =
    let t = c.loop-next.invariant in
    turn-placed t.0.size t.0.state t.1

pub loop-next-smaller : goal.loop-next-smaller
loop-next-smaller c =
    let t = c.loop-next.invariant in
    let T = c.in-Some.ensures in
    rw (T.links-is, T.slot_is) (left-falls t.0.size t.0.state t.1)

pub loop-next-preserved : goal.loop-next-preserved
loop-next-preserved c =
    let t = c.loop-next.invariant in
    let T = c.in-Some.ensures in
    (rw (T.links-is, T.slot_is) (turning-more t.0 t.1), turn-on t.0 t.1 T)

pub returns : goal.returns
returns c =
    let t = c.loop-next.invariant in
    let T = c.in_default.ensures in
    T.links-is ∙ turning-end (turning-more t.0 t.1) (sym T.slot_is)
