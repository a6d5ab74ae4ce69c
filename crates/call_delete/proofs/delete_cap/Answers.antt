-- `delete_cap` clears the scratch, and goes by whether the capability is a master.
use mathlib.Core.Path.{◌∙◌}
use Rattle.call_delete.proofs.Asking.{parent-cell, child, of-child, of-master, deletes}
use Rattle.call_delete.proofs.delete_cap.Goals as goal
use Rattle.call_delete.proofs.delete_cap.Goals.{then-links-k-eq0, else-links-k-eq0}

pub delete_master-requires : goal.delete_master-requires
delete_master-requires c =
    let asks = c.requires in
    record { asks = asks; top = parent-cell asks ∙ c.if-links-k-eq0.true }

pub delete_child-requires : goal.delete_child-requires
delete_child-requires c = child c.requires c.if-links-k-eq0.false

pub returns : goal.returns
returns c =
    let asks = c.requires in
    deletes asks c.done.ensures
    (elim c.if-links-k-eq0.branch [
      | then-links-k-eq0 w ↦ rw (w.links-is, w.words-is) (of-master asks w.if-links-k-eq0.true w.delete_master.ensures)
      | else-links-k-eq0 w ↦ rw (w.links-is, w.words-is) (of-child asks w.if-links-k-eq0.false w.delete_child.ensures)
    ])
    c.clear.ensures
