-- `feed_all` has fed what came before place `from`; with room, a byte at least is taken.
use mathlib.Core.Path.{sym, subst}
use native.Mathlib.Omega.{arith}
use Rattle.script_driver.specs.Parts.{store_in}
use Rattle.hall.specs.Runs.{FedIf}
use Rattle.hall.proofs.Going.{going_start, feed-asked, taken-some, taken-within, going_on, going_done}
use Rattle.hall.proofs.feed_all.Goals as goal

pub loop-from-init : goal.loop-from-init
loop-from-init c = going_start c.requires

pub feed-fed-requires-clause-asks : goal.feed-fed-requires-clause-asks
feed-fed-requires-clause-asks c = feed-asked c.loop-from.invariant c.in_ok-ready.ensures

pub overflow_add-from : goal.overflow_add-from
overflow_add-from c =
    omega (arith, taken-within c.loop-from.invariant c.in_ok-ready.ensures c.feed-fed.new.room c.feed-fed.ensures.feeding c.loop-from-test.true)

pub loop-from-smaller : goal.loop-from-smaller
loop-from-smaller c =
    omega (
      arith,
      taken-some c.loop-from.invariant c.in_ok-ready.ensures c.feed-fed.new.room c.feed-fed.ensures.feeding c.loop-from-test.true,
      taken-within c.loop-from.invariant c.in_ok-ready.ensures c.feed-fed.new.room c.feed-fed.ensures.feeding c.loop-from-test.true,
    )

pub loop-from-preserved : goal.loop-from-preserved
loop-from-preserved c =
    going_on c.loop-from.invariant c.in_ok-ready.ensures c.feed-fed.new.room c.feed-fed.ensures.feeding c.loop-from-test.true
    c.feed-fed.auto.out c.feed-fed.ensures.lent

pub returns : goal.returns
returns c = going_done c.loop-from.invariant (omega (arith, c.loop-from-test.false))

-- a write failed
pub returns-in_err-ready : goal.returns-in_err-ready
returns-in_err-ready c =
    let a = c.args in
    subst (λ r. FedIf (store_in a.room.now) a.held.now a.out.now c.loop-from.room c.loop-from.held a.window.now c.loop-from.out a.begun r)
    (sym c.from_residual.ensures) c.loop-from.invariant.stands.formed
