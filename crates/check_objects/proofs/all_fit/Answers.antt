-- `all_fit` has seen every slot that it passed to fit and to differ from those above it.
use native.Mathlib.Omega.{arith}
use mathlib.Core.Path.{sym, ◌∙◌}
use borrow.Author.Rules.{rules}
use Rattle.layout.specs.Layout as Layout
use Rattle.check_rows.proofs.Counting.{above_more, used-past, all-used}
use Rattle.check_rows.proofs.Unique.{none-past, all-differ, none-same}
use Rattle.check_objects.proofs.UniqueNames.{by_name, names-unique, names-differ}
use Rattle.layout.proofs.Deciding.{yes-it, no-it, refuted, granted}
use Rattle.check_objects.proofs.all_fit.Goals as goal

pub loop-o-init : goal.loop-o-init
loop-o-init c = (c.requires.table, none-past (by_name _ _), omega arith, used-past 64 Layout.MASTER _ _)

pub object_fits-requires : goal.object_fits-requires
object_fits-requires c =
    record {
      sizes = search rules;
      slot = c.loop-o.invariant.2;
    }

pub shape_of-heads-then-not-object_fits : goal.shape_of-heads-then-not-object_fits
shape_of-heads-then-not-object_fits c = c.loop-o.invariant.0.size ∙ sym c.requires.table.size

pub shape_of-next-then-not-object_fits : goal.shape_of-next-then-not-object_fits
shape_of-next-then-not-object_fits c = c.loop-o.invariant.0.links.size ∙ sym c.requires.table.links.size

pub returns-then-not-object_fits : goal.returns-then-not-object_fits
returns-then-not-object_fits c = no-it (λ h. refuted c.object_fits.ensures c.if-not-object_fits.true (h.fit _))

pub enter-requires : goal.enter-requires
enter-requires c =
    let now = c.loop-o.invariant in record {
      sizes = search rules;
      table = now.0;
      slot = (c.loop-o-test.true, now.2);
    }

pub shape_of-heads-then-not-enter : goal.shape_of-heads-then-not-enter
shape_of-heads-then-not-enter c = c.enter.ensures.table.size ∙ sym c.requires.table.size

pub shape_of-next-then-not-enter : goal.shape_of-next-then-not-enter
shape_of-next-then-not-enter c = c.enter.ensures.table.links.size ∙ sym c.requires.table.links.size

pub returns-then-not-enter : goal.returns-then-not-enter
returns-then-not-enter c =
    no-it (λ h. refuted c.enter.ensures.answer c.if-not-enter.true (none-same (names-differ _ _ h.names) _))

pub loop-o-preserved : goal.loop-o-preserved
loop-o-preserved c =
    let now = c.loop-o.invariant in (
      c.enter.ensures.table,
      above_more _ _ (granted c.enter.ensures.answer c.if-not-enter.false) now.1,
      omega (arith, now.2),
      above_more _ _ (granted c.object_fits.ensures c.if-not-object_fits.false) now.3,
    )

pub shape_of-heads : goal.shape_of-heads
shape_of-heads c = c.loop-o.invariant.0.size ∙ sym c.requires.table.size

pub shape_of-next : goal.shape_of-next
shape_of-next c = c.loop-o.invariant.0.links.size ∙ sym c.requires.table.links.size

pub returns : goal.returns
returns c =
    let now = c.loop-o.invariant in
    yes-it (record {
      fit = all-used 64 Layout.MASTER _ _ _ (omega arith) now.3;
      names = names-unique _ _ (all-differ (by_name _ _) _ (omega arith) now.1);
    })
