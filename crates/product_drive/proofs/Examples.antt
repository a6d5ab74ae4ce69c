-- The definitions on examples, by computation.
use mathlib.Core.Path.{◌≡◌, refl}
use mathlib.Core.List.{map}
use Rattle.product_drive.specs.Drive as Drive
use Rattle.product_drive.specs.Edges as Edges
use Rattle.product_drive.specs.Edges.{edges, given}

pub edges-hold : map given edges ≡ edges
unfolding Drive.computes Edges.computes
edges-hold = refl
