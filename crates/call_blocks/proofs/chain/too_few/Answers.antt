-- `too_few` asks whether there is an n-th free block.
use Prim.Native.Nat.{◌-◌}
use mathlib.Core.Path.{ap, ◌∙◌}
use Rattle.layout.specs.Rows.{next_block_of}
use Rattle.call_blocks.specs.Walk.{hop}
use Rattle.call_blocks.proofs.Walking.{free-blocked}
use Rattle.call_blocks.proofs.Cutting.{few-none, few-some}
use Rattle.call_blocks.proofs.chain.too_few.Goals as goal

pub returns-then-n-eq0 : goal.returns-then-n-eq0
returns-then-n-eq0 c = few-none _ _ c.if-n-eq0.true

pub block_at-requires : goal.block_at-requires
block_at-requires c = (c.requires.links, rw c.free_head.ensures (free-blocked c.requires _))

pub returns : goal.returns
returns c =
    let a = c.args in
    few-some _ _ c.if-n-eq0.false _
    (c.block_at.ensures ∙ ap (hop (next_block_of a.links.now) (a.n - 1)) c.free_head.ensures)
