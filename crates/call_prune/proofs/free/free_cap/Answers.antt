-- `free_cap` frees a record of the capabilities.
use Rattle.call_prune.specs.Links.{freed, freed_cap}
use Rattle.call_prune.proofs.free.free_cap.Goals as goal

pub returns : goal.returns
unfolding freed freed_cap
returns c = c.free_record.ensures
