-- `names_fit` has passed none that is out of range.
use Prim.Native.Nat.{ℕ, ◌+◌, ◌≤◌}
use mathlib.Core.Path.{◌≡◌, sym, ap, ◌∙◌}
use mathlib.Core.Bool.{Bool, true, false, not}
use native.Mathlib.Omega.{arith}
use Rattle.rules.specs.Call.{Capability}
use Rattle.rules.specs.Refusals.{name_fits}
use Rattle.rules.specs.Questions.{entries}
use Rattle.question_lend.proofs.Searching.{passed_none, passed-more, found_here, found_none}
use Rattle.question_lend.proofs.Listing.{unnamed, some-first, none-some}
use Rattle.question_lend.proofs.list.names_fit.Goals as goal
use Rattle.question_lend.proofs.list.names_fit.Goals.{After-name_fits}

-- the name at the place is in range as r says
named : (c : After-name_fits) (r : Bool) → c.name_fits.result ≡ r → unnamed c.args.list.now c.loop-place.place ≡ not r
named c r h = ap not (sym (c.name_fits.ensures ∙ ap (λ (x : Capability). name_fits x.name) c.entry_at.ensures) ∙ h)

pub loop-place-init : goal.loop-place-init
loop-place-init c = passed_none _

pub entry_at-requires : goal.entry_at-requires
unfolding entries
entry_at-requires c = record { low = c.loop-place.invariant.low; high = omega arith; few = c.requires }

pub returns-then-not-name_fits : goal.returns-then-not-name_fits
unfolding entries
returns-then-not-name_fits c =
    some-first _ _ _ (found_here _ _ _ c.loop-place.invariant (omega arith)
    (named (goal.at.returns-then-not-name_fits c).After-name_fits false c.if-not-name_fits.true))

pub loop-place-preserved : goal.loop-place-preserved
loop-place-preserved c =
    passed-more _ 0 _ c.loop-place.invariant (named (goal.at.loop-place-preserved c).After-name_fits true c.if-not-name_fits.false)

pub returns-else-not-name_fits : goal.returns-else-not-name_fits
unfolding entries
returns-else-not-name_fits c =
    none-some _ _ (found_none _ _ _ (passed-more _ 0 _ c.loop-place.invariant
    (named (goal.at.returns-else-not-name_fits c).After-name_fits true c.if-not-name_fits.false)) (omega arith))

pub returns : goal.returns
unfolding entries
returns c = none-some _ _ (found_none _ _ _ c.loop-place.invariant (omega arith))
