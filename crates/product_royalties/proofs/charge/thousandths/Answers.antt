-- `thousandths` multiplies in each tier.
use mathlib.Core.Path.{sym}
use native.Mathlib.Omega.{arith}
use Rattle.product_royalties.proofs.Tiers.{first, next, last}
use Rattle.product_royalties.proofs.charge.thousandths.Goals as goal

pub returns-then-p-le-FIRST_PICKS : goal.returns-then-p-le-FIRST_PICKS
returns-then-p-le-FIRST_PICKS c = rw c.from.ensures (sym (first c.args.p c.if-p-le-FIRST_PICKS.true))

pub returns-then-p-le-NEXT_PICKS : goal.returns-then-p-le-NEXT_PICKS
returns-then-p-le-NEXT_PICKS c =
    rw (c.from-first.ensures, c.from-then-p-le-NEXT_PICKS.ensures)
    (sym (next c.args.p (omega (arith, c.if-p-le-FIRST_PICKS.false)) c.if-p-le-NEXT_PICKS.true))

pub returns : goal.returns
returns c =
    rw (c.from-first.ensures, c.from-next.ensures, c.from-2.ensures)
    (sym (last c.args.p (omega (arith, c.if-p-le-NEXT_PICKS.false))))
