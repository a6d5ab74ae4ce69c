-- `in_range` tests N, C and W in the definition's order.
use mathlib.Core.Path.{◌≡◌, sym, ap₂, ◌∙◌}
use mathlib.Core.Bool.{◌&&◌, true≢false}
use lib.Dec.{leb}
use borrow.Author.Tests.{lt-leb, le-leb}
use Rattle.std.proofs.Common.{inl, inr}
use Rattle.product_drive.specs.Drive.{max_picks, max_counts, max_row, repeat_fits}
use Rattle.product_drive.proofs.Ranges.{within-end}
use Rattle.product_drive.proofs.repeat.Repeat.in_range.Goals as goal
use Rattle.product_drive.proofs.repeat.Repeat.in_range.Goals.{After-contains, After-contains-then-self-le-MAX_COUNTS, then-contains, else-contains}

picks : (c : After-contains) → c.contains.result ≡ (leb 1 c.args.self.picks && leb c.args.self.picks max_picks)
picks c =
    rw (c.contains.ensures.value, c.new.ensures.exhausted, c.new.ensures.start, c.new.ensures.end)
    (ap₂ ◌&&◌ (within-end 1 c.args.self.picks) (within-end c.args.self.picks max_picks))

rows : (c : After-contains-then-self-le-MAX_COUNTS)
    → c.contains-then-self-le-MAX_COUNTS.result ≡ (leb 1 c.args.self.row && leb c.args.self.row max_row)
rows c =
    let new = c.new-then-self-le-MAX_COUNTS.ensures in
    rw (c.contains-then-self-le-MAX_COUNTS.ensures.value, new.exhausted, new.start, new.end)
    (ap₂ ◌&&◌ (within-end 1 c.args.self.row) (within-end c.args.self.row max_row))

pub returns-then-self-le-MAX_COUNTS : goal.returns-then-self-le-MAX_COUNTS
unfolding repeat_fits
returns-then-self-le-MAX_COUNTS c =
    let fit = c.if-self-le-MAX_COUNTS.true in
    rw (
      sym (picks (goal.at.returns-then-self-le-MAX_COUNTS c).After-contains) ∙ fit.0,
      le-leb c.args.self.counts max_counts fit.1,
    ) (rows c)

pub returns-else-self-le-MAX_COUNTS : goal.returns-else-self-le-MAX_COUNTS
unfolding repeat_fits
returns-else-self-le-MAX_COUNTS c =
    let is = picks (goal.at.returns-else-self-le-MAX_COUNTS c).After-contains in
    let p = c.args.self in
    elim c.if-contains.branch [
      | then-contains w ↦ elim c.if-self-le-MAX_COUNTS.either [
        | inl h ↦ rw (sym is ∙ h.0, lt-leb p.counts max_counts h.1) (w.t-4-is ∙ lt-leb p.counts max_counts h.1)
        | inr f ↦ absurd (true≢false (sym w.if-contains.true ∙ f))
      ]
      | else-contains w ↦ rw (sym is ∙ w.if-contains.false) (w.t-4-is ∙ w.if-contains.false)
    ]
