-- `turn` has turned the first k tiles.
use Rattle.std.proofs.Common.{◌≡◌}
use Rattle.product_hooks.specs.Turned.{turned_tiles}
use Rattle.product_hooks.proofs.pattern.turn.Given as goal

abbrev pub invariant-loop-k : goal.invariant-loop-k
invariant-loop-k l = l.pattern ≡ turned_tiles l.k l.initial.pattern
