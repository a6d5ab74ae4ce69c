-- `first_links` meets its contract.
use mathlib.Core.Path.{refl}
use Rattle.kernel_fresh.specs.Slices.{first_links}
use Rattle.kernel_fresh.proofs.first_links.Goals as goal

pub returns : goal.returns
unfolding first_links
returns c = refl
