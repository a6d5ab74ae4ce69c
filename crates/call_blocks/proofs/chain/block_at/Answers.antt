-- `block_at` steps on n times.
use mathlib.Core.Path.{refl, sym, ap, ◌∙◌}
use native.Mathlib.Numerals.{add-one}
use Rattle.layout.specs.Rows.{next_block_of}
use Rattle.call_blocks.specs.Walk.{hop}
use Rattle.call_blocks.proofs.Hops.{hop-last}
use Rattle.call_blocks.proofs.chain.block_at.Goals as goal

pub loop-init : goal.loop-init
unfolding hop
loop-init c = refl

pub loop-preserved : goal.loop-preserved
loop-preserved c =
    let now = c.loop in
    let a = c.args in
    let next = next_block_of a.links.now in
    rw (add-one now.counter)
    (c.next_block-block.ensures ∙ ap next now.invariant ∙ sym (hop-last next now.counter a.head))
