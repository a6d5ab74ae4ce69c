-- `take` cuts the chain after its n-th block.
use mathlib.Core.Path.{◌∙◌}
use native.Mathlib.Omega.{arith}
use lib.ListN.{length-set}
use Rattle.call_blocks.proofs.Cutting.{last-free, taken-block, taken_none, taken-some}
use Rattle.call_blocks.proofs.take.take.Goals as goal

pub returns-then-n-eq0 : goal.returns-then-n-eq0
returns-then-n-eq0 c = taken_none _ _ _ c.if-n-eq0.true

pub overflow_add-links-2 : goal.overflow_add-links-2
overflow_add-links-2 c = omega (arith, taken-block c.requires.fact_1 c.if-n-eq0.false c.requires.fact_3)

pub offset_bounds-links-last : goal.offset_bounds-links-last
offset_bounds-links-last c = omega (arith, taken-block c.requires.fact_1 c.if-n-eq0.false c.requires.fact_3)

pub bounds-links-last : goal.bounds-links-last
bounds-links-last c = omega (arith, taken-block c.requires.fact_1 c.if-n-eq0.false c.requires.fact_3)

pub overflow_add-links-3 : goal.overflow_add-links-3
overflow_add-links-3 c = omega (arith, taken-block c.requires.fact_1 c.if-n-eq0.false c.requires.fact_3)

pub offset_bounds-links-last-2 : goal.offset_bounds-links-last-2
offset_bounds-links-last-2 c = omega (arith, taken-block c.requires.fact_1 c.if-n-eq0.false c.requires.fact_3)

pub bounds-links-last-2 : goal.bounds-links-last-2
bounds-links-last-2 c =
    simp length-set (omega (arith, taken-block c.requires.fact_1 c.if-n-eq0.false c.requires.fact_3))

pub returns : goal.returns
returns c =
    let n = c.if-n-eq0.false in
    let last = c.requires.fact_3 in
    taken-some c.args.links.now c.args.o c.args.n n _ (last ∙ last-free _ _ n) (taken-block c.requires.fact_1 n last)
