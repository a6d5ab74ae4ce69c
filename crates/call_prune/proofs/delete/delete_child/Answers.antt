-- `delete_child` ends all below k, and then k, which is a leaf in its place.
use mathlib.Core.Path.{ap, ◌∙◌}
use Rattle.call_prune.specs.Links.{dropped_links, deleted_links}
use Rattle.call_prune.proofs.Measuring.{pruned-placed}
use Rattle.call_prune.proofs.delete.delete_child.Goals as goal

pub drop_leaf-requires : goal.drop_leaf-requires
drop_leaf-requires c = rw c.prune_below.ensures (pruned-placed c.requires.living)

pub returns : goal.returns
unfolding deleted_links
returns c = c.drop_leaf.ensures ∙ ap (λ l. dropped_links l c.args.k) c.prune_below.ensures
