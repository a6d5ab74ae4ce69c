-- `all_trees` meets its contract: whatever the trees of the objects 1 to o are found to be, so are those of all.
use native.Mathlib.Omega.{arith}
use Rattle.layout.specs.Shape.{nil, count, TreeOf}
use Rattle.check_chains.proofs.Marking.{going_start, going_on, going-broken}
use Rattle.check_chains.proofs.Chains.{each-made, each-end}
use Rattle.check_trees.proofs.caps.all_trees.Goals as goal

pub loop-o-init : goal.loop-o-init
loop-o-init c = (omega arith, going_start c.requires.marks)

pub one_tree-requires : goal.one_tree-requires
one_tree-requires c =
    record {
      low = c.loop-o-test.true;
      high = c.loop-o.invariant.0;
      links = c.requires.links;
      marks = c.loop-o.invariant.1.marks;
    }

pub loop-o-preserved : goal.loop-o-preserved
loop-o-preserved c =
    let now = c.loop-o in (
      omega (arith, now.invariant.0),
      going_on now.invariant.1
          (each-made (TreeOf _) (λ F k. count k F) now.o c.loop-o-test.true)
          c.one_tree.auto.seen (rw c.if-not-one_tree.false at c.one_tree.ensures),
    )

pub returns-then-not-one_tree : goal.returns-then-not-one_tree
returns-then-not-one_tree c =
    let now = c.loop-o in
    going-broken now.invariant.1 (each-made (TreeOf _) (λ F k. count k F) now.o c.loop-o-test.true)
    (rw c.if-not-one_tree.true at c.one_tree.ensures)

pub returns : goal.returns
returns c =
    let now = c.loop-o in
    now.invariant.1.leads _ _ (each-end (TreeOf _) (λ F k. count k F) nil now.o now.invariant.1.marks (omega arith))
