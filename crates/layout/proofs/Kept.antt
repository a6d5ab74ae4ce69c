-- Frames of the rest of well-formedness: a part of the shape, and the ranges of the cells, hold as they did where the
-- rows that they speak of are as they were.
use mathlib.Core.Path.{◌≡◌}
use mathlib.Core.List.{List}
use Prim.Native.Nat.{ℕ}
use lib.ListN.{get_or}
use Rattle.layout.specs.Layout as Layout
use Rattle.layout.specs.Rows.{flag_of, suspended_of, waiting_of, terminated_of, count_of, length_of}
use Rattle.layout.specs.Rows.{master_of, size_of, first_block_of, next_object_of, next_block_of}
use Rattle.layout.specs.Rows.{owner_of, parent_of, first_child_of, next_cap_of, prev_cap_of}
use Rattle.layout.specs.Shape.{Objects, Caps, Blocks}
use Rattle.layout.specs.WellFormed.{Cells}

module _ (l l' : List ℕ) where
  pub objects-kept : master_of l' ≡ master_of l → next_object_of l' ≡ next_object_of l
      → get_or l' Layout.OBJECTS 0 ≡ get_or l Layout.OBJECTS 0
      → get_or l' Layout.FREE_OBJECTS 0 ≡ get_or l Layout.FREE_OBJECTS 0 → Objects l → Objects l'
  objects-kept m n h f c = rw (m, n, h, f) c

  pub caps-kept : master_of l' ≡ master_of l → owner_of l' ≡ owner_of l → parent_of l' ≡ parent_of l
      → first_child_of l' ≡ first_child_of l → next_cap_of l' ≡ next_cap_of l → prev_cap_of l' ≡ prev_cap_of l
      → get_or l' Layout.FREE_CAPS 0 ≡ get_or l Layout.FREE_CAPS 0 → Caps l → Caps l'
  caps-kept m o p x n v f c = rw (m, o, p, x, n, v, f) c

  pub blocks-kept : master_of l' ≡ master_of l → size_of l' ≡ size_of l → first_block_of l' ≡ first_block_of l
      → next_block_of l' ≡ next_block_of l → get_or l' Layout.FREE_BLOCKS 0 ≡ get_or l Layout.FREE_BLOCKS 0
      → Blocks l → Blocks l'
  blocks-kept m z x n f c = rw (m, z, x, n, f) c

pub cells-kept : (b l b' l' : List ℕ) → master_of l' ≡ master_of l → flag_of b' ≡ flag_of b
    → suspended_of b' ≡ suspended_of b → waiting_of b' ≡ waiting_of b → terminated_of b' ≡ terminated_of b
    → count_of b' ≡ count_of b → length_of b' ≡ length_of b → Cells b l → Cells b' l'
cells-kept b l b' l' m f s a t n x c = record {
  flag = λ o h. rw f (c.flag o (rw m at h));
  suspended = λ o h. rw s (c.suspended o (rw (m, f) at h));
  waiting = λ o h. rw a (c.waiting o (rw (m, f) at h));
  terminated = λ o h. rw t (c.terminated o (rw (m, f) at h));
  count = λ o h. rw n (c.count o (rw (m, f) at h));
  length = λ o i h p. rw x (c.length o i (rw (m, f) at h) (rw n at p));
}
