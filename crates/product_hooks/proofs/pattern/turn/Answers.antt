-- `turn` has turned the first k tiles.
use Prim.Native.Nat.{◌/◌}
use mathlib.Core.Path.{◌≡◌, refl}
use native.Mathlib.Omega.{arith}
use lib.ListN.{length}
use Rattle.product_hooks.specs.Turned.{turned, turned_tiles}
use Rattle.product_hooks.proofs.Tiles.{turned_more}
use Rattle.product_hooks.proofs.pattern.turn.Goals as goal

pub loop-k-init : goal.loop-k-init
unfolding turned_tiles
loop-k-init c = refl

pub loop-k-preserved : goal.loop-k-preserved
loop-k-preserved c = turned_more _ _ _ _ (omega arith) c.loop-k.invariant c.turn_at.ensures

pub returns : goal.returns
unfolding turned
returns c =
    let whole : c.loop-k.k ≡ length c.args.pattern.now / 8 = omega arith in
    rw whole at c.loop-k.invariant
