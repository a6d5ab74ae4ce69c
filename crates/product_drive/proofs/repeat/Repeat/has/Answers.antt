-- `has` tests the next pick, then the steps so far.
use mathlib.Core.Path.{◌≡◌, sym, ap₂, ◌∙◌}
use mathlib.Core.Bool.{◌&&◌}
use native.Mathlib.Omega.{arith}
use lib.Dec.{leb}
use borrow.Author.Tests.{leb-true}
use Rattle.rules.proofs.Tests.{all2}
use Rattle.product_drive.specs.Drive.{place_fits}
use Rattle.product_drive.proofs.Ranges.{within-end, in-range}
use Rattle.product_drive.proofs.repeat.Repeat.has.Goals as goal
use Rattle.product_drive.proofs.repeat.Repeat.has.Goals.{After-contains}

within : (c : After-contains) → c.contains.result ≡ (leb 1 c.args.place.next && leb c.args.place.next c.args.self.picks)
within c =
    rw (c.contains.ensures.value, c.new.ensures.exhausted, c.new.ensures.start, c.new.ensures.end)
    (ap₂ ◌&&◌ (within-end 1 c.args.place.next) (within-end c.args.place.next c.args.self.picks))

pub up_to-requires : goal.up_to-requires
up_to-requires c =
    let d = c.args.place in
    let r = in-range c.args.self c.requires in
    let h = leb-true d.next c.args.self.picks
    (all2 (leb 1 d.next) (leb d.next c.args.self.picks) (sym (within (goal.at.up_to-requires c).After-contains) ∙ c.if-contains.true)).1 in
    record { some = r.some; picks = r.picks; counts = r.counts; high = omega (arith, h) }

pub returns-then-contains : goal.returns-then-contains
unfolding place_fits
returns-then-contains c =
    rw (sym (within (goal.at.returns-then-contains c).After-contains) ∙ c.if-contains.true, c.up_to.ensures)

pub returns-else-contains : goal.returns-else-contains
unfolding place_fits
returns-else-contains c =
    rw (sym (within (goal.at.returns-else-contains c).After-contains) ∙ c.if-contains.false) c.if-contains.false
