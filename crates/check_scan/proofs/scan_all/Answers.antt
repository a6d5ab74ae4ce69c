-- `scan_all` has passed the slots above the entry k, as Reached says.
use native.Mathlib.Omega.{arith}
use mathlib.Core.Path.{sym, ◌∙◌}
use mathlib.Core.List.{[]}
use Rattle.check_scan.proofs.Scanning.{passed_none, passed-all, at_next, at-end, reach-on}
use Rattle.check_scan.proofs.Scanning.{misfit, doubled, entry-slot}
use Rattle.layout.proofs.Deciding.{refuted, granted}
use Rattle.check_scan.proofs.scan_all.Goals as goal

pub loop-entry-init : goal.loop-entry-init
loop-entry-init c =
    let h = c.requires in
    record { place = 512; passed = passed_none _ _ _ _ h.table; rest = h.listed }

pub shape_of-heads-then-not-cap_fits : goal.shape_of-heads-then-not-cap_fits
shape_of-heads-then-not-cap_fits c = c.loop-entry.invariant.passed.table.size ∙ sym c.requires.table.size

pub shape_of-next-then-not-cap_fits : goal.shape_of-next-then-not-cap_fits
shape_of-next-then-not-cap_fits c = c.loop-entry.invariant.passed.table.links.size ∙ sym c.requires.table.links.size

pub returns-then-not-cap_fits : goal.returns-then-not-cap_fits
returns-then-not-cap_fits c = misfit _ _ _ (refuted c.cap_fits.ensures c.if-not-cap_fits.true)

pub enter-requires : goal.enter-requires
enter-requires c =
    record {
      sizes = c.requires.sizes;
      table = rw c.from-i.ensures ((at_next _ _ _ _ _ _ _ _ c.loop-entry.invariant c.loop-entry-test.true).table);
      slot = rw c.from-i.ensures (entry-slot _ _ _ _ _ _ _ _ c.loop-entry.invariant c.loop-entry-test.true);
    }

pub shape_of-heads-then-not-enter : goal.shape_of-heads-then-not-enter
shape_of-heads-then-not-enter c = c.enter.ensures.table.size ∙ sym c.requires.table.size

pub shape_of-next-then-not-enter : goal.shape_of-next-then-not-enter
shape_of-next-then-not-enter c = c.enter.ensures.table.links.size ∙ sym c.requires.table.links.size

pub returns-then-not-enter : goal.returns-then-not-enter
returns-then-not-enter c = doubled _ _ _ (refuted c.enter.ensures.answer c.if-not-enter.true)

pub overflow_add-total : goal.overflow_add-total
overflow_add-total c = omega (arith, (c.loop-entry.invariant.passed.money []).small)

pub loop-entry-preserved : goal.loop-entry-preserved
loop-entry-preserved c =
    reach-on _ _ _ _ _ _ _ _ c.loop-entry.invariant c.loop-entry-test.true _ _ _
    (rw c.from-i.ensures at (granted c.cap_fits.ensures c.if-not-cap_fits.false))
    (rw c.from-i.ensures at c.enter.ensures.table)
    (rw c.from-i.ensures at (granted c.enter.ensures.answer c.if-not-enter.false))
    (λ b. c.from-total.ensures ∙ (rw c.from-i.ensures at (c.money_at.ensures b)))
    (omega arith)

pub shape_of-heads : goal.shape_of-heads
shape_of-heads c = c.loop-entry.invariant.passed.table.size ∙ sym c.requires.table.size

pub shape_of-next : goal.shape_of-next
shape_of-next c = c.loop-entry.invariant.passed.table.links.size ∙ sym c.requires.table.links.size

pub returns : goal.returns
returns c = passed-all _ _ _ _ _ _ (omega arith) (at-end _ _ _ _ _ _ _ _ c.loop-entry.invariant c.loop-entry-test.false)
