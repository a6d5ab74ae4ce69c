-- `check_shape` meets its contract: the shape is that of the three kinds.
use Rattle.layout.proofs.Deciding.{no-it, refuted, granted, as-well}
use Rattle.check_trees.proofs.shape.check_shape.Goals as goal

pub returns-then-check_caps : goal.returns-then-check_caps
returns-then-check_caps c =
    as-well c.check_blocks.ensures
    (λ b. record {
      objects = granted c.check_objects.ensures c.if-not-check_objects.false;
      caps = granted c.check_caps.ensures c.if-check_caps.true;
      blocks = b;
    })
    (λ s. s.blocks)

pub returns-else-check_caps : goal.returns-else-check_caps
returns-else-check_caps c = rw c.if-check_caps.false (no-it (λ s. refuted c.check_caps.ensures c.if-check_caps.false s.caps))

pub returns-then-not-check_objects : goal.returns-then-not-check_objects
returns-then-not-check_objects c = no-it (λ s. refuted c.check_objects.ensures c.if-not-check_objects.true s.objects)
