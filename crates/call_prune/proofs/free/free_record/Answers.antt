-- `free_record` stores to three cells.
use mathlib.Core.Path.{refl}
use Rattle.call_prune.specs.Links.{freed}
use Rattle.call_prune.proofs.free.free_record.Goals as goal

pub returns : goal.returns
unfolding freed
returns g c = refl
