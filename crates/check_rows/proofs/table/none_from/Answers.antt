-- `none_from` has seen the test say no at every slot that it passed.
use native.Mathlib.Omega.{arith}
use Rattle.check_rows.proofs.Chaining.{along-start, along-end, along-in, along-found, along-on, left-falls}
use Rattle.check_rows.proofs.table.none_from.Goals as goal

pub loop-j-init : goal.loop-j-init
loop-j-init g c = along-start _ c.requires.chain

pub returns-then-same : goal.returns-then-same
returns-then-same g c = along-found c.loop-j.invariant c.loop-j-test.true (rw c.if-same.true at c.same.ensures)

pub bounds-next-j : goal.bounds-next-j
bounds-next-j g c =
    let now = c.loop-j.invariant in
    omega (arith, along-in now c.loop-j-test.true, now.links.size)

pub loop-j-smaller : goal.loop-j-smaller
loop-j-smaller g c = rw c.from-j.ensures (left-falls c.loop-j.invariant c.loop-j-test.true)

pub loop-j-preserved : goal.loop-j-preserved
loop-j-preserved g c =
    rw c.from-j.ensures (along-on c.loop-j.invariant c.loop-j-test.true (rw c.if-same.false at c.same.ensures))

pub returns : goal.returns
returns g c = along-end c.loop-j.invariant c.loop-j-test.false
