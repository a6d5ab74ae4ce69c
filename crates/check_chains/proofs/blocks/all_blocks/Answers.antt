-- `all_blocks` meets its contract: whatever the blocks of the objects 1 to o are found to be, so are those of all.
use mathlib.Core.List.{[]}
use native.Mathlib.Omega.{arith}
use Rattle.layout.specs.Shape.{times, BlocksOf}
use Rattle.check_chains.proofs.Marking.{going_start, going_on, going-broken}
use Rattle.check_chains.proofs.Chains.{each-made, each-end}
use Rattle.check_chains.proofs.blocks.all_blocks.Goals as goal

pub loop-o-init : goal.loop-o-init
loop-o-init c = (omega arith, going_start c.requires.marks)

pub one_blocks-requires : goal.one_blocks-requires
one_blocks-requires c =
    record {
      low = c.loop-o-test.true;
      high = c.loop-o.invariant.0;
      links = c.requires.links;
      marks = c.loop-o.invariant.1.marks;
    }

pub loop-o-preserved : goal.loop-o-preserved
loop-o-preserved c =
    let now = c.loop-o in (
      omega (arith, now.invariant.0),
      going_on now.invariant.1
          (each-made (BlocksOf _) (λ xs k. times k xs) now.o c.loop-o-test.true)
          c.one_blocks.auto.seen (rw c.if-not-one_blocks.false at c.one_blocks.ensures),
    )

pub returns-then-not-one_blocks : goal.returns-then-not-one_blocks
returns-then-not-one_blocks c =
    let now = c.loop-o in
    going-broken now.invariant.1 (each-made (BlocksOf _) (λ xs k. times k xs) now.o c.loop-o-test.true)
    (rw c.if-not-one_blocks.true at c.one_blocks.ensures)

pub returns : goal.returns
returns c =
    let now = c.loop-o in
    now.invariant.1.leads _ _ (each-end (BlocksOf _) (λ xs k. times k xs) [] now.o now.invariant.1.marks (omega arith))
