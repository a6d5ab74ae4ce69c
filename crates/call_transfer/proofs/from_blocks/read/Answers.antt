-- `read` is stopped by 7, or copies the bytes.
use mathlib.Core.Path.{◌≡◌, sym, ◌∙◌}
use mathlib.Core.Bool.{true}
use native.Mathlib.Omega.{arith}
use Rattle.rules.specs.Calls.{lies_in}
use Rattle.call_steps.specs.Run.{window_in}
use Rattle.values.specs.declared.refusal.Refusal.TheVariants.{OutsideWindow}
use Rattle.call_steps.proofs.Replying.{refuses, fills-refused}
use Rattle.call_transfer.specs.Runs.{range}
use Rattle.call_transfer.proofs.Stops.{copy-asks}
use Rattle.call_transfer.proofs.Reading.{reads-met, reads-done}
use Rattle.call_transfer.proofs.from_blocks.read.Goals as goal
use Rattle.call_transfer.proofs.from_blocks.read.Goals.{Else-not-in_window}

-- the range lies in the window
lies : (c : Else-not-in_window) → lies_in (range c.args.range.start c.args.range.end) (window_in c.args.words.now c.args.k) ≡ true
lies c = sym c.in_window.ensures ∙ c.if-not-in_window.false

pub copy_out-requires : goal.copy_out-requires
copy_out-requires c =
    let p = c.requires in record {
      fact_1 = copy-asks _ c.args.range.start c.args.range.end _ p.sized p.target c.first_block-head.ensures
          (lies (goal.at.copy_out-requires c).Else-not-in_window) (omega (arith, p.ordered));
      fact_2 = omega (arith, p.ordered, p.short, p.room);
    }

pub returns-then-not-in_window : goal.returns-then-not-in_window
returns-then-not-in_window c =
    fills-refused _ (refuses OutsideWindow)
    (reads-met c.requires (sym c.in_window.ensures ∙ c.if-not-in_window.true))

pub returns : goal.returns
returns c =
    reads-done c.requires _ c.first_block-head.ensures (lies (goal.at.returns c).Else-not-in_window) _ c.copy_out.ensures
    c.hands_over.ensures
