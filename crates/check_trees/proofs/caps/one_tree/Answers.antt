-- `one_tree` meets its contract: a free object has no tree, and a living one has its master's, with no sibling.
use mathlib.Core.Path.{refl}
use Rattle.check_chains.proofs.Marking.{marks-after}
use Rattle.check_trees.proofs.Trees.{tree-dead, tree-broken, tree-step}
use Rattle.check_trees.proofs.caps.one_tree.Goals as goal

pub returns-then-master-eq0 : goal.returns-then-master-eq0
returns-then-master-eq0 c = tree-dead _ _ c.requires.low c.requires.high _ (rw c.from.ensures refl) c.requires.marks c.if-master-eq0.true

pub returns-then-check_record : goal.returns-then-check_record
returns-then-check_record c =
    let found = rw c.if-check_record.true at c.check_record.ensures in
    rw c.from-then-check_record.ensures (tree-step _ _ c.requires.low c.requires.high _ (rw c.from.ensures refl) c.if-master-eq0.false found
    (marks-after c.requires.marks c.check_record.auto.seen found))

pub returns-else-check_record : goal.returns-else-check_record
returns-else-check_record c =
    rw c.if-check_record.false (tree-broken _ _ c.requires.low c.requires.high _ (rw c.from.ensures refl) c.if-master-eq0.false
    (rw c.if-check_record.false at c.check_record.ensures))
