-- `unlink` stores to the object before and to the head.
use Rattle.call_ending.proofs.Walking.{unlinked-is}
use Rattle.call_ending.proofs.object.unlink.Goals as goal

pub returns : goal.returns
returns c = unlinked-is c.requires c.before-i.ensures c.instead-head.ensures
