-- `delete_master` prunes, then ends the object.
use Rattle.call_delete.proofs.Asking.{end_of, ends-master}
use Rattle.call_delete.proofs.delete_master.Goals as goal

pub end_object-requires : goal.end_object-requires
end_object-requires c = end_of c.requires c.from-o.ensures c.prune_below.ensures

pub returns : goal.returns
returns c =
    ends-master c.requires c.from-o.ensures
    c.prune_below.ensures c.end_object.ensures
