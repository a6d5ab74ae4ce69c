-- withdraw meets its contract: past its one test the climb changes, then the caller's cash.
use mathlib.Core.Path.{◌≡◌, sym, ◌∙◌}
use mathlib.Core.Bool.{false}
use native.Mathlib.Omega.{arith}
use Rattle.values.specs.declared.refusal.Refusal.TheVariants.{TooLittle}
use Rattle.call_steps.proofs.Replying.{refuses, refused-is, done-is}
use Rattle.call_purse.specs.declared.way.Way.TheVariants.{Out}
use Rattle.call_purse.specs.Climb.{climb_stops}
use Rattle.call_purse.specs.Calls.{withdrawn, withdraw_run}
use Rattle.call_purse.proofs.Settling.{refused, done-with, withdraw-short, withdraw-free}
use Rattle.call_purse.proofs.withdraw.Goals as goal
use Rattle.call_purse.proofs.withdraw.Goals.{After-climb_stops, Else-climb_stops}

-- what the test of the climb says
tested : (c : After-climb_stops) → let at = c.args in c.climb_stops.result ≡ climb_stops Out at.links.now at.words.now at.k at.sum
tested c = c.climb_stops.ensures

-- past the test
free : (c : Else-climb_stops) → let at = c.args in climb_stops Out at.links.now at.words.now at.k at.sum ≡ false
free c = sym c.climb_stops.ensures ∙ c.if-climb_stops.false

pub returns-then-climb_stops : goal.returns-then-climb_stops
unfolding withdraw_run
returns-then-climb_stops c b =
    let at = c.args in
    refused-is (refuses TooLittle)
    (refused at.links.now at.words.now (withdrawn at.links.now at.words.now at.me at.k at.sum) 9
    (withdraw-short at.links.now at.words.now at.k at.sum (sym (tested (goal.at.returns-then-climb_stops c).After-climb_stops) ∙ c.if-climb_stops.true))
    (omega arith) b)

pub returns : goal.returns
unfolding withdraw_run withdrawn
returns c b =
    let at = c.args in
    done-is c.done.ensures
    (done-with at.links.now at.words.now (withdrawn at.links.now at.words.now at.me at.k at.sum) _
    (rw (c.climb_moves.ensures, c.cash_of-cash.ensures))
    (withdraw-free at.links.now at.words.now at.k at.sum (free (goal.at.returns c).Else-climb_stops)) b)
