-- `clear` clears block after block.
use Prim.Native.Nat.{◌+◌}
use mathlib.Core.Path.{sym, subst, ◌∙◌}
use native.Mathlib.Omega.{arith}
use Rattle.layout.specs.Rows.{next_block_of}
use Rattle.call_blocks.specs.Taking.{free_head}
use Rattle.call_blocks.proofs.Walking.{next-zero, rest-high, enough-rest}
use Rattle.call_blocks.proofs.Walking.{passing-none, passing-more, passing-all}
use Rattle.call_blocks.proofs.Walking.{Clearing, clearing-none, clearing-more, clearing-all}
use Rattle.call_blocks.proofs.clear.clear.Goals as goal

pub loop-init : goal.loop-init
loop-init c =
    let a = c.args in (
      subst (Clearing (next_block_of a.links.now) (free_head a.links.now) a.n a.bytes.now a.bytes.now 0)
          (sym c.free_head-block.ensures) (clearing-none a.bytes.now (enough-rest c.requires.fact_2)),
      passing-none _ _ c.free_head-block.ensures,
    )

pub clear_block-requires : goal.clear_block-requires
clear_block-requires c =
    let now = c.loop in
    (now.invariant.0.size ∙ c.requires.fact_1, rest-high now.invariant.0.chain)

pub next_block-block-requires : goal.next_block-block-requires
next_block-block-requires c = (c.requires.fact_2.links, rest-high c.loop.invariant.0.chain)

pub loop-preserved : goal.loop-preserved
loop-preserved c =
    let a = c.args in
    let now = c.loop in (
      subst (Clearing (next_block_of a.links.now) (free_head a.links.now) a.n a.bytes.now
          c.clear_block.new.bytes (now.counter + 1))
          (sym c.next_block-block.ensures)
          (clearing-more (next-zero a.links.now) now.invariant.0 c.loop-test.true _
          c.clear_block.ensures),
      passing-more now.invariant.1 _ c.next_block-block.ensures,
    )

pub returns : goal.returns
returns c =
    let l = c.loop in record {
      fact_1 = clearing-all l.invariant.0 c.loop-test.false;
      fact_2 = passing-all l.invariant.1 (omega (arith, l.invariant.0.below));
    }
