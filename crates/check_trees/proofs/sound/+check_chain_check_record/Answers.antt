-- The pair `check_record` and `check_chain` meets its contracts.
use Rattle.std.proofs.Common.{arith}
use Rattle.check_chains.proofs.Marking.{visit-marks, visit-falls}
use Rattle.check_trees.proofs.Trees.{record-refused, record-step, children-end}
use Rattle.check_trees.proofs.Trees.{along-falls, along-on, along-broken, along-end}
use Rattle.check_trees.proofs.sound.+check_chain_check_record.Goals as goal

-- ---- check_chain

pub check_chain-loop-j-smaller : goal.check_chain-loop-j-smaller
check_chain-loop-j-smaller t c =
    along-falls c.loop-j.invariant c.check_record.auto.seen (rw c.if-not-check_record.false at c.check_record.ensures)

pub check_chain-loop-j-preserved : goal.check_chain-loop-j-preserved
check_chain-loop-j-preserved t c =
    rw c.from.ensures (along-on c.loop-j.invariant c.check_record.auto.seen
    (rw c.if-not-check_record.false at c.check_record.ensures) (λ z. omega (arith, c.loop-j-test.true)))

pub check_chain-returns-then-not-check_record : goal.check_chain-returns-then-not-check_record
check_chain-returns-then-not-check_record t c =
    along-broken c.loop-j.invariant (λ z. omega (arith, c.loop-j-test.true))
    (rw c.if-not-check_record.true at c.check_record.ensures)

pub check_chain-returns : goal.check_chain-returns
check_chain-returns t c = along-end c.loop-j.invariant (omega (arith, c.loop-j-test.false))

-- ---- check_record

pub check_record-returns-then-mark-ne0 : goal.check_record-returns-then-mark-ne0
check_record-returns-then-mark-ne0 t c =
    record-refused _ _ _ _ _ (λ a z. (rw c.from-i.ensures at c.if-mark-ne0.true) z)

pub check_record-returns-then-first-eq0 : goal.check_record-returns-then-first-eq0
check_record-returns-then-first-eq0 t c =
    let agree = c.agrees.ensures.sound c.if-not-agrees.false in
    let m = c.requires.marks in
    let new = rw c.from-i.ensures at c.if-mark-ne0.false in
    rw c.from-i.ensures (record-step _ _ _ _ _ agree m new
    (children-end _ _ _ _ _ (visit-marks m agree.high new) (rw c.from-i.ensures at c.if-first-eq0.true)))

pub check_record-check_chain-requires : goal.check_record-check_chain-requires
check_record-check_chain-requires t c =
    let high = (c.agrees.ensures.sound c.if-not-agrees.false).high in
    let m = c.requires.marks in
    let new = rw c.from-i.ensures at c.if-mark-ne0.false in
    rw c.from-i.ensures (
      omega (arith, c.decreases, visit-falls m high new),
      record { links = c.requires.links; marks = visit-marks m high new },
    )

pub check_record-returns : goal.check_record-returns
check_record-returns t c =
    let new = rw c.from-i.ensures at c.if-mark-ne0.false in
    record-step _ _ _ _ _ (c.agrees.ensures.sound c.if-not-agrees.false) c.requires.marks new
    (rw c.from-i.ensures at c.check_chain.ensures)
