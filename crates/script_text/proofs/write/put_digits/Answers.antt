-- `put_digits` writes digit after digit, from the last back.
use native.Mathlib.Omega.{arith}
use native.Mathlib.Nat.{mod-lt}
use lib.ListN.{length-set}
use Rattle.script_text.proofs.Spelling.{spelling-none, spelling-more, spelling-all, spelling-place, spelling-first}
use Rattle.script_text.proofs.write.put_digits.Goals as goal

pub overflow_add-end : goal.overflow_add-end
overflow_add-end c = omega (arith, c.digits_in.ensures)

pub loop-rest-init : goal.loop-rest-init
loop-rest-init c = spelling-none _ _ _ _ (omega (arith, c.digits_in.ensures))

pub overflow_sub-i : goal.overflow_sub-i
overflow_sub-i c = (spelling-place _ _ _ _ _ _ c.loop-rest.invariant c.requires c.loop-rest-test.true).0

pub overflow_cast-out : goal.overflow_cast-out
overflow_cast-out c = omega (arith, mod-lt c.loop-rest.rest {m = 10} (omega arith))

pub overflow_add-out : goal.overflow_add-out
overflow_add-out c = omega (arith, mod-lt c.loop-rest.rest {m = 10} (omega arith))

pub bounds-out-i : goal.bounds-out-i
bounds-out-i c = (spelling-place _ _ _ _ _ _ c.loop-rest.invariant c.requires c.loop-rest-test.true).1

pub loop-rest-smaller : goal.loop-rest-smaller
loop-rest-smaller c = omega arith

pub loop-rest-preserved : goal.loop-rest-preserved
loop-rest-preserved c =
    spelling-more _ _ _ _ _ _ c.loop-rest.invariant c.loop-rest-test.true (spelling-place _ _ _ _ _ _ c.loop-rest.invariant c.requires c.loop-rest-test.true).2

pub overflow_cast-out-2 : goal.overflow_cast-out-2
overflow_cast-out-2 c = omega arith

pub overflow_add-out-2 : goal.overflow_add-out-2
overflow_add-out-2 c = omega arith

pub bounds-out-at : goal.bounds-out-at
bounds-out-at c = (spelling-first _ _ _ _ _ _ c.loop-rest.invariant c.requires c.loop-rest-test.false).0

pub shape_of-out : goal.shape_of-out
shape_of-out c = simp length-set c.loop-rest.invariant.size

pub returns : goal.returns
returns c =
    spelling-all _ _ _ _ _ _ c.loop-rest.invariant c.loop-rest-test.false (spelling-first _ _ _ _ _ _ c.loop-rest.invariant c.requires c.loop-rest-test.false).1 _
    (omega (arith, c.digits_in.ensures))
