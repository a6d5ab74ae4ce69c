-- `place_of` is `name_place`, and is in the table.
use native.Mathlib.Omega.{arith}
use mathlib.Core.Path.{refl}
use Rattle.check_objects.specs.Names.{name_place}
use Rattle.check_objects.proofs.names.place_of.Goals as goal

pub returns : goal.returns
unfolding name_place
returns c = (rw (c.from.ensures, c.from-2.ensures) refl, omega arith)
