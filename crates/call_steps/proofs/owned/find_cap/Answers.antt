-- `find_cap` counts down as the rules' `find` does, from one slot with the p1 to the next.
use Prim.Native.Nat.{ℕ, ◌≤◌}
use mathlib.Core.Path.{◌≡◌, sym, ◌∙◌}
use mathlib.Core.List.{List}
use native.Mathlib.Omega.{arith}
use Rattle.rules.specs.Slots.{find}
use Rattle.layout.specs.Layout as Layout
use Rattle.layout.specs.View.{view}
use Rattle.call_steps.specs.Tests.{SameFrom, taken, cell_is}
use Rattle.call_steps.proofs.Finding.{slot_of, slot_none, found-le, same_start, same_next, found-at, found-none}
use Rattle.call_steps.proofs.Sharing.{taken-among}
use Rattle.call_steps.proofs.owned.find_cap.Goals as goal
use Rattle.call_steps.proofs.owned.find_cap.Goals.{In-Some}

-- the search goes on at the slot that was found, at most the one it was at
here : (c : In-Some) → (c.in-Some.i ≡ find c.loop-i.last (cell_is Layout.P1 c.args.words.now c.args.p1)) × (1 ≤ c.in-Some.i)
here c = slot_of _ _ c.in-Some.ensures

low : (c : In-Some) → 1 ≤ c.in-Some.i
low c = (here c).1

high : (c : In-Some) → c.in-Some.i ≤ c.loop-i.last
high c = found-le _ c.loop-i.last _ (here c).0

among : (c : In-Some) (b : List ℕ) → SameFrom (taken (view b c.args.links.now c.args.words.now) c.args.o c.args.p1) 512 c.in-Some.i
among c b =
    let a = c.args in
    taken-among b a.links.now a.words.now a.o a.p1 c.loop-i.last c.requires.fact_2 (c.loop-i.invariant.1 b) _ (here c).0

pub loop-i-init : goal.loop-i-init
loop-i-init c = (omega arith, λ b. same_start _ 512)

pub last_p1-requires : goal.last_p1-requires
last_p1-requires c = record { fact_1 = c.requires.fact_1.words; fact_2 = omega arith }

pub has_p1-requires-clause-fact_2 : goal.has_p1-requires-clause-fact_2
has_p1-requires-clause-fact_2 c = record { low = low c; high = omega (arith, high c) }

pub returns-then-has_p1 : goal.returns-then-has_p1
returns-then-has_p1 c b =
    let at = (goal.at.returns-then-has_p1 c).In-Some in
    found-at _ (among at b) (low at) (sym (c.has_p1.ensures b) ∙ c.if-has_p1.true)

pub loop-i-smaller : goal.loop-i-smaller
loop-i-smaller c = let at = (goal.at.loop-i-smaller c).In-Some in omega (arith, low at, high at)

pub loop-i-preserved : goal.loop-i-preserved
loop-i-preserved c =
    let at = (goal.at.loop-i-preserved c).In-Some in
    (omega (arith, high at), λ b. same_next _ (among at b) (low at) (sym (c.has_p1.ensures b) ∙ c.if-has_p1.false))

pub returns : goal.returns
returns c b =
    let a = c.args in
    found-none _ (taken-among b a.links.now a.words.now a.o a.p1 c.loop-i.last c.requires.fact_2 (c.loop-i.invariant.1 b) 0
    (sym (slot_none _ c.in_default.ensures))) (omega arith)
