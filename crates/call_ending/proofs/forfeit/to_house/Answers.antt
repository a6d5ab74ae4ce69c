-- `to_house` adds the forfeit to the house.
use Prim.Native.Nat.{◌+◌}
use mathlib.Core.Path.{ap}
use lib.ListN.{get_or, set}
use Rattle.layout.specs.Layout as Layout
use Rattle.call_ending.specs.Forfeit.{ended_words}
use Rattle.call_ending.proofs.forfeit.to_house.Goals as goal

pub returns : goal.returns
unfolding ended_words
returns c =
    let w = c.args.words.now in
    ap (λ x. set w Layout.HOUSE (get_or w Layout.HOUSE 0 + x)) c.forfeit-sum.ensures
