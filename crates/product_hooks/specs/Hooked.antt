-- The promise of a call by hook: the bytes that go in are "turned before write", the bytes that come out have "the same
-- rearrangement", and in all else it is the plain call.
use Rattle.std.specs.Prelude.{ℕ, ◌≡◌, List}
use Rattle.call_steps.specs.declared.request.Request.{Request}
use Rattle.call_steps.specs.Request.{Reply, count_of}
use Rattle.kernel_step.specs.Slices.{Slices, slices}
use Rattle.kernel_call.specs.Calls.{Calls}
use Rattle.product_hooks.specs.Turned.{turned, turned_front}

-- the bytes that the reply counts, at the buffer's front, are turned; no more is changed
unfoldable pub handed_over : Reply → Slices → Slices
handed_over r s = slices s.bytes s.links s.words (turned_front (count_of r) s.buffer) s.scratch

pub record Hooked (q : Request) (text : List ℕ) (r : Reply) (was is : Slices) : Type 0 where
  -- what the plain call leaves
  pub plain : Slices
  -- "paid and refused as the plain calls"
  pub call : Calls q (turned text) r was plain
  pub leaves : is ≡ handed_over r plain
