-- deposit meets its contract: past its two tests the climb changes, then the caller's cash.
use mathlib.Core.Path.{◌≡◌, sym, ◌∙◌}
use mathlib.Core.Bool.{false}
use native.Mathlib.Omega.{arith}
use lib.Dec.{ltb}
use Rattle.layout.specs.Rows.{cash_of}
use Rattle.values.specs.declared.refusal.Refusal.TheVariants.{TooLittle, Overflows}
use Rattle.call_steps.proofs.Replying.{refuses, refused-is, done-is}
use Rattle.call_purse.specs.declared.way.Way.TheVariants.{Into}
use Rattle.call_purse.specs.Climb.{climb_stops}
use Rattle.call_purse.specs.Calls.{deposited, deposit_run}
use Rattle.call_purse.proofs.Settling.{refused, done-with, deposit-short, deposit-full, deposit-free}
use Rattle.call_purse.proofs.deposit.Goals as goal
use Rattle.call_purse.proofs.deposit.Goals.{After-below, After-climb_stops, Else-below, Else-climb_stops}

-- what the test of the cash says
tested : (c : After-below) → let at = c.args in c.below.result ≡ ltb (cash_of at.words.now at.me) at.sum
tested c = rw c.cash_of-cash.ensures at c.below.ensures

climbed : (c : After-climb_stops) → let at = c.args in c.climb_stops.result ≡ climb_stops Into at.links.now at.words.now at.k at.sum
climbed c = c.climb_stops.ensures

-- past the first
enough : (c : Else-below) → let at = c.args in ltb (cash_of at.words.now at.me) at.sum ≡ false
enough c = sym (rw c.cash_of-cash.ensures at c.below.ensures) ∙ c.if-below.false

-- past both
free : (c : Else-climb_stops) → let at = c.args in climb_stops Into at.links.now at.words.now at.k at.sum ≡ false
free c = sym c.climb_stops.ensures ∙ c.if-climb_stops.false

pub returns-then-below : goal.returns-then-below
unfolding deposit_run
returns-then-below c b =
    let at = c.args in
    refused-is (refuses TooLittle)
    (refused at.links.now at.words.now (deposited at.links.now at.words.now at.me at.k at.sum) 9
    (deposit-short at.links.now at.words.now at.me at.k at.sum
    (sym (tested (goal.at.returns-then-below c).After-below) ∙ c.if-below.true)) (omega arith) b)

pub returns-then-climb_stops : goal.returns-then-climb_stops
unfolding deposit_run
returns-then-climb_stops c b =
    let at = c.args in
    refused-is (refuses Overflows)
    (refused at.links.now at.words.now (deposited at.links.now at.words.now at.me at.k at.sum) 10
    (deposit-full at.links.now at.words.now at.me at.k at.sum
    (enough (goal.at.returns-then-climb_stops c).Else-below) (sym (climbed (goal.at.returns-then-climb_stops c).After-climb_stops) ∙ c.if-climb_stops.true)) (omega arith) b)

pub returns : goal.returns
unfolding deposit_run deposited
returns c b =
    let at = c.args in
    let cash = rw c.cash_of-cash.ensures at c.less.ensures in
    done-is c.done.ensures
    (done-with at.links.now at.words.now (deposited at.links.now at.words.now at.me at.k at.sum) _
    (rw (c.climb_moves.ensures, cash))
    (deposit-free at.links.now at.words.now at.me at.k at.sum
    (enough (goal.at.returns c).Else-below) (free (goal.at.returns c).Else-climb_stops)) b)
