-- `copy_in` copies part by part, and walks the chain once.
use Prim.Native.Nat.{◌+◌, ◌*◌, ◌%◌, ◌≤◌}
use mathlib.Core.Path.{◌≡◌, refl, ap, ◌∙◌}
use native.Mathlib.Omega.{arith}
use lib.ListN.{get_or, length}
use Rattle.layout.specs.Layout as Layout
use Rattle.call_steps.specs.Copies.{laid, copied}
use Rattle.call_transfer.specs.Runs.{cell_of, copied_in}
use Rattle.call_steps.proofs.Laid.{laid-length}
use Rattle.call_transfer.proofs.Copying.{walk-blocked, walk-starts, walk_block, part-cell, walk-on, laid_more}
use Rattle.call_transfer.proofs.to_blocks.copy_in.Goals as goal
use Rattle.call_transfer.proofs.to_blocks.copy_in.Goals.{At-loop-i, In-loop-i}

-- the block is there
here : (c : In-loop-i) → c.loop-i.block ≤ 512
here c = walk_block c.requires c.loop-i.invariant.0 c.loop-i-test.true

size : (c : At-loop-i) → length c.loop-i.bytes ≡ length c.args.bytes.now
size c = ap length c.loop-i.invariant.1 ∙ laid-length _ _ c.args.bytes.now c.loop-i.i

pub block_at-block-requires : goal.block_at-block-requires
block_at-block-requires c = (c.requires.links, walk-blocked c.requires)

pub loop-i-init : goal.loop-i-init
unfolding laid
loop-i-init c = (walk-starts c.requires _ c.block_at-block.ensures, refl)

pub overflow_mul-to : goal.overflow_mul-to
overflow_mul-to c = omega (arith, here (goal.at.overflow_mul-to c).In-loop-i)

pub overflow_add-to : goal.overflow_add-to
overflow_add-to c = omega (arith, here (goal.at.overflow_add-to c).In-loop-i)

pub overflow_add-to-in-loop-i : goal.overflow_add-to-in-loop-i
overflow_add-to-in-loop-i c = omega (arith, here (goal.at.overflow_add-to-in-loop-i c).In-loop-i)

pub copy-requires : goal.copy-requires
copy-requires c =
    let part = c.part_of-m.ensures in (
      omega (arith, part, c.loop-i-test.true),
      omega (arith, here (goal.at.copy-requires c).In-loop-i, part, size (goal.at.copy-requires c).At-loop-i, c.requires.bytes),
    )

pub next_block-block-requires : goal.next_block-block-requires
next_block-block-requires c = (c.requires.links, here (goal.at.next_block-block-requires c).In-loop-i)

pub loop-i-preserved : goal.loop-i-preserved
unfolding copied
loop-i-preserved c =
    let a = c.args in
    let now = c.loop-i in
    let w = now.invariant.0 in
    let part = c.part_of-m.ensures in (
      walk-on c.requires w c.loop-i-test.true _ part _ c.next_block-block.ensures,
      laid_more (λ i. cell_of a.links.now a.head (a.start + i)) (λ i. get_or a.text.now i 0)
          (λ j. Layout.DATA + now.block * 64 + (a.start + now.i) % 64 + j)
          (λ j. get_or a.text.now (now.i + j) 0)
          a.bytes.now now.bytes _ now.i _ now.invariant.1 c.copy.ensures.is
          (λ j h. part-cell c.requires w c.loop-i-test.true _ part j h)
          (λ j h. refl),
    )

pub returns : goal.returns
returns c =
    let a = c.args in
    let now = c.loop-i in
    let e : now.i ≡ length a.text.now = omega (arith, now.invariant.0.below) in
    now.invariant.1 ∙ ap (λ x. copied_in a.links.now a.head a.start a.text.now x a.bytes.now) e
