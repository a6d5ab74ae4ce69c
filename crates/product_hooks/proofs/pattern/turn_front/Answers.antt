-- `turn_front` turns the part that it lends.
use Prim.Native.Nat.{ℕ}
use mathlib.Core.Path.{sym, ap}
use mathlib.Core.List.{List, ◌++◌}
use lib.ListN.{drop}
use lib.Seq.{length-take-le}
use Rattle.product_hooks.specs.Turned.{turned_front}
use Rattle.product_hooks.proofs.pattern.turn_front.Goals as goal

pub slice_bounds-turn-end-2 : goal.slice_bounds-turn-end-2
slice_bounds-turn-end-2 c = sym (length-take-le _ _ c.requires)

pub returns : goal.returns
unfolding turned_front
returns c =
    ap (λ (l : List ℕ). l ++ drop c.args.n c.args.pattern.now)
    c.turn.ensures
