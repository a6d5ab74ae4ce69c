-- `free_object` frees a record of the objects.
use Rattle.call_prune.specs.Links.{freed}
use Rattle.call_ending.specs.Links.{freed_object}
use Rattle.call_ending.proofs.free.free_object.Goals as goal

pub returns : goal.returns
unfolding freed freed_object
returns c = c.free_record.ensures
