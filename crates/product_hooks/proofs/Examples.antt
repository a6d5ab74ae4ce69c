-- The definitions on examples, by computation.
use mathlib.Core.Path.{◌≡◌, refl}
use mathlib.Core.List.{map}
use Rattle.product_hooks.specs.Turned as Turned
use Rattle.product_hooks.specs.Edges as Edges
use Rattle.product_hooks.specs.Edges.{edges, given}

pub edges-hold : map given edges ≡ edges
unfolding Turned.computes Edges.computes
edges-hold = refl
