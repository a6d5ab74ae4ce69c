-- `first_place` has passed none that will do.
use Prim.Native.Nat.{ℕ, ◌+◌, ◌≤◌}
use mathlib.Core.Path.{◌≡◌, sym, ap, ◌∙◌}
use mathlib.Core.Bool.{Bool, true, false}
use native.Mathlib.Omega.{arith}
use Rattle.rules.specs.Questions.{entries, entry}
use Rattle.layout.specs.View.{view}
use Rattle.question_lend.specs.Asks.{wish_of}
use Rattle.question_lend.specs.Places.{will_do}
use Rattle.question_lend.proofs.Searching.{passed_none, passed-more, found_here, found_none}
use Rattle.question_lend.proofs.first_place.Goals as goal
use Rattle.question_lend.proofs.first_place.Goals.{After-will_do}

-- the entry at the place will do as r says
tested : (c : After-will_do) → let a = c.args in (r : Bool) → c.will_do.result ≡ r → will_do (view a.bytes.now a.links.now a.words.now) a.me (wish_of a.x) (entry a.list.now c.loop-place.place) ≡ r
tested c r h = let a = c.args in
    sym (c.will_do.ensures ∙ ap (will_do (view a.bytes.now a.links.now a.words.now) a.me (wish_of a.x)) c.entry_at.ensures) ∙ h

pub loop-place-init : goal.loop-place-init
loop-place-init c = passed_none _

pub entry_at-requires : goal.entry_at-requires
unfolding entries
entry_at-requires c = record { low = c.loop-place.invariant.low; high = omega arith; few = c.requires.fact_4 }

pub returns-then-will_do : goal.returns-then-will_do
unfolding entries
returns-then-will_do c =
    found_here _ _ _ c.loop-place.invariant (omega arith) (tested (goal.at.returns-then-will_do c).After-will_do true c.if-will_do.true)

pub loop-place-preserved : goal.loop-place-preserved
loop-place-preserved c =
    passed-more _ 0 _ c.loop-place.invariant (tested (goal.at.loop-place-preserved c).After-will_do false c.if-will_do.false)

pub returns-else-will_do : goal.returns-else-will_do
unfolding entries
returns-else-will_do c = found_none _ _ _ (passed-more _ 0 _ c.loop-place.invariant (tested (goal.at.returns-else-will_do c).After-will_do false c.if-will_do.false)) (omega arith)

pub returns : goal.returns
unfolding entries
returns c = found_none _ _ _ c.loop-place.invariant (omega arith)
