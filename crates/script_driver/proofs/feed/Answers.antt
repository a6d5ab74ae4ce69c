-- `feed` has fed what came before place `from` of the window.
use mathlib.Core.Path.{sym, ◌∙◌}
use native.Mathlib.Omega.{arith}
use Rattle.script_play.proofs.Lending.{lent-same, works-on, lent-on}
use Rattle.script_driver.proofs.Linking.{inv-start, inv-line, feed-all, feed-full, feed-held, room_for}
use Rattle.script_driver.proofs.feed.Goals as goal

pub loop-from-init : goal.loop-from-init
loop-from-init c = (inv-start c.requires.asks, c.requires.working, lent-same)

pub overflow_sub-out : goal.overflow_sub-out
overflow_sub-out c = omega (arith, c.loop-from.invariant.0.place)

pub line_end-end-requires : goal.line_end-end-requires
line_end-end-requires c = (omega arith, omega arith)

pub slice_bounds-hold-count : goal.slice_bounds-hold-count
slice_bounds-hold-count c = omega arith

pub hold-n-requires : goal.hold-n-requires
hold-n-requires c = record { size = c.loop-from.invariant.0.size; few = c.loop-from.invariant.0.few }

pub shape_of-held-then-end-window : goal.shape_of-held-then-end-window
shape_of-held-then-end-window c = c.hold-n.auto.held ∙ c.loop-from.invariant.0.size ∙ sym c.requires.asks.stands.size

pub shape_of-out-then-end-window : goal.shape_of-out-then-end-window
shape_of-out-then-end-window c = c.loop-from.invariant.0.long

pub returns-then-end-window-clause-feeding : goal.returns-then-end-window-clause-feeding
returns-then-end-window-clause-feeding c =
    let i = c.loop-from.invariant.0 in
    feed-held i c.if-out-run-ge-ANSWER.true c.line_end-end.ensures c.if-end-window.true c.hold-n.ensures (c.hold-n.auto.held ∙ i.size)

pub slice_bounds-ended-count : goal.slice_bounds-ended-count
slice_bounds-ended-count c = omega (arith, c.line_end-end.ensures.low)

pub ended-run-requires : goal.ended-run-requires
ended-run-requires c =
    let i = c.loop-from.invariant in record {
      asks = record {
        line = record {
          formed = i.0.formed;
          room = room_for _ _ i.0.place c.if-out-run-ge-ANSWER.true;
          counted = omega (arith, i.0.counted, i.0.total, c.loop-from-test.true);
        };
        hold = record { size = i.0.size; few = i.0.few };
      };
      working = i.1;
    }

pub loop-from-smaller : goal.loop-from-smaller
loop-from-smaller c = omega (arith, c.line_end-end.ensures.low, c.line_end-end.ensures.high, c.if-end-window.false)

pub loop-from-preserved : goal.loop-from-preserved
loop-from-preserved c =
    let i = c.loop-from.invariant in
    let e = c.ended-run.ensures in (
      inv-line i.0 c.if-out-run-ge-ANSWER.true c.line_end-end.ensures c.if-end-window.false e.line c.ended-run.auto.out,
      works-on e.lent i.1,
      lent-on i.2 e.lent,
    )

pub shape_of-held-else-out-run-ge-ANSWER : goal.shape_of-held-else-out-run-ge-ANSWER
shape_of-held-else-out-run-ge-ANSWER c = c.loop-from.invariant.0.size ∙ sym c.requires.asks.stands.size

pub shape_of-out-else-out-run-ge-ANSWER : goal.shape_of-out-else-out-run-ge-ANSWER
shape_of-out-else-out-run-ge-ANSWER c = c.loop-from.invariant.0.long

pub returns-else-out-run-ge-ANSWER-clause-feeding : goal.returns-else-out-run-ge-ANSWER-clause-feeding
returns-else-out-run-ge-ANSWER-clause-feeding c = feed-full c.loop-from.invariant.0 c.if-out-run-ge-ANSWER.false

pub shape_of-held-after-loop-from : goal.shape_of-held-after-loop-from
shape_of-held-after-loop-from c = c.loop-from.invariant.0.size ∙ sym c.requires.asks.stands.size

pub shape_of-out-after-loop-from : goal.shape_of-out-after-loop-from
shape_of-out-after-loop-from c = c.loop-from.invariant.0.long

pub returns-after-loop-from-clause-feeding : goal.returns-after-loop-from-clause-feeding
returns-after-loop-from-clause-feeding c = feed-all c.loop-from.invariant.0 c.loop-from-test.false
