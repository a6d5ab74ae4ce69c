-- `copy_out` copies part by part, and walks the chain once.
use Prim.Native.Nat.{◌+◌, ◌*◌, ◌%◌, ◌≤◌}
use mathlib.Core.Path.{◌≡◌, refl, ap, ◌∙◌}
use native.Mathlib.Omega.{arith}
use lib.ListN.{get_or, length}
use Rattle.layout.specs.Layout as Layout
use Rattle.call_steps.specs.Copies.{laid, copied}
use Rattle.call_transfer.specs.Runs.{cell_of, copied_out}
use Rattle.call_steps.proofs.Laid.{laid-length}
use Rattle.call_transfer.proofs.Copying.{walk-blocked, walk-starts, walk_block, part-cell, walk-on, laid_more}
use Rattle.call_transfer.proofs.from_blocks.copy_out.Goals as goal
use Rattle.call_transfer.proofs.from_blocks.copy_out.Goals.{At-loop-i, In-loop-i}

-- the block is there
here : (c : In-loop-i) → c.loop-i.block ≤ 512
here c = walk_block c.requires.fact_1 c.loop-i.invariant.0 c.loop-i-test.true

size : (c : At-loop-i) → length c.loop-i.buffer ≡ length c.args.buffer.now
size c = ap length c.loop-i.invariant.1 ∙ laid-length _ _ c.args.buffer.now c.loop-i.i

pub block_at-block-requires : goal.block_at-block-requires
block_at-block-requires c = (c.requires.fact_1.links, walk-blocked c.requires.fact_1)

pub loop-i-init : goal.loop-i-init
unfolding laid
loop-i-init c = (walk-starts c.requires.fact_1 _ c.block_at-block.ensures, refl)

pub overflow_mul-from : goal.overflow_mul-from
overflow_mul-from c = omega (arith, here (goal.at.overflow_mul-from c).In-loop-i)

pub overflow_add-from : goal.overflow_add-from
overflow_add-from c = omega (arith, here (goal.at.overflow_add-from c).In-loop-i)

pub overflow_add-from-in-loop-i : goal.overflow_add-from-in-loop-i
overflow_add-from-in-loop-i c = omega (arith, here (goal.at.overflow_add-from-in-loop-i c).In-loop-i)

pub copy-requires : goal.copy-requires
copy-requires c =
    let part = c.part_of-m.ensures in (
      omega (arith, here (goal.at.copy-requires c).In-loop-i, part, c.requires.fact_1.bytes),
      omega (arith, size (goal.at.copy-requires c).At-loop-i, part, c.requires.fact_2),
    )

pub next_block-block-requires : goal.next_block-block-requires
next_block-block-requires c = (c.requires.fact_1.links, here (goal.at.next_block-block-requires c).In-loop-i)

pub loop-i-preserved : goal.loop-i-preserved
unfolding copied
loop-i-preserved c =
    let a = c.args in
    let now = c.loop-i in
    let w = now.invariant.0 in
    let part = c.part_of-m.ensures in (
      walk-on c.requires.fact_1 w c.loop-i-test.true _ part _ c.next_block-block.ensures,
      laid_more (λ i. i) (λ i. get_or a.bytes.now (cell_of a.links.now a.head (a.start + i)) 0)
          (λ j. now.i + j)
          (λ j. get_or a.bytes.now (Layout.DATA + now.block * 64 + (a.start + now.i) % 64 + j) 0)
          a.buffer.now now.buffer _ now.i _ now.invariant.1 c.copy.ensures.is
          (λ j h. refl)
          (λ j h. ap (λ x. get_or a.bytes.now x 0) (part-cell c.requires.fact_1 w c.loop-i-test.true _ part j h)),
    )

pub returns : goal.returns
returns c =
    let a = c.args in
    let now = c.loop-i in
    let e : now.i ≡ a.n = omega (arith, now.invariant.0.below) in
    now.invariant.1
    ∙ ap (λ x. copied_out a.bytes.now a.links.now a.head a.start x a.buffer.now) e
