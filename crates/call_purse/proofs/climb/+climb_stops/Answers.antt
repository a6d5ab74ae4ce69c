-- The test of the climb meets its contract, two steps of it in each call.
use mathlib.Core.Path.{◌≡◌, sym, ap, ◌∙◌}
use mathlib.Core.Bool.{false}
use Prim.Native.Nat.{ℕ}
use native.Mathlib.Omega.{arith}
use Rattle.layout.specs.Rows.{parent_of, money_of}
use Rattle.call_purse.specs.Climb.{stops as stops_at}
use Rattle.call_purse.proofs.Climbing.{Step, step_of, stops-top, stops-here, stops-next}
use Rattle.call_purse.proofs.climb.+climb_stops.Goals as goal
use Rattle.call_purse.proofs.climb.+climb_stops.Goals.{Else-k-eq0, Else-up-eq0, Else-stops, After-above}

-- past the first test k is not 0
here : (t : ℕ) (c : Else-k-eq0 t) → Step c.args.links.now c.args.words.now c.args.k
here t c = step_of c.requires c.if-k-eq0.false

-- past the third the slot above k is not 0
there : (t : ℕ) (c : Else-up-eq0 t) → Step c.args.links.now c.args.words.now (parent_of c.args.links.now c.args.k)
there t c = step_of (step_of c.requires c.if-k-eq0.false).next (λ z. c.if-up-eq0.false (c.above-up.ensures ∙ z))

passed : (t : ℕ) (c : Else-stops t) → stops_at c.args.way c.args.sum (money_of c.args.words.now c.args.k) ≡ false
passed t c = sym (rw c.purse.ensures at c.stops.ensures) ∙ c.if-stops.false

-- the slot two above k
two_up : (t : ℕ) (c : After-above t)
    → c.above.result ≡ parent_of c.args.links.now (parent_of c.args.links.now c.args.k)
two_up t c = c.above.ensures ∙ ap (parent_of c.args.links.now) c.above-up.ensures

pub returns-then-k-eq0 : goal.returns-then-k-eq0
returns-then-k-eq0 t c = sym (stops-top c.args.way c.args.sum c.requires c.if-k-eq0.true)

pub purse-requires : goal.purse-requires
purse-requires t c = let s = here t (goal.at.purse-requires t c).Else-k-eq0 in (c.requires.words, s.low, s.high)

pub returns-then-stops : goal.returns-then-stops
returns-then-stops t c =
    sym (stops-here c.args.way c.args.sum (here t (goal.at.returns-then-stops t c).Else-k-eq0)
    (sym (rw c.purse.ensures at c.stops.ensures) ∙ c.if-stops.true))

pub above-up-requires : goal.above-up-requires
above-up-requires t c = let s = here t (goal.at.above-up-requires t c).Else-k-eq0 in (c.requires.links, s.low, s.high)

-- k is a master
pub returns-then-up-eq0 : goal.returns-then-up-eq0
returns-then-up-eq0 t c =
    let s = here t (goal.at.returns-then-up-eq0 t c).Else-k-eq0 in
    sym (stops-next c.args.way c.args.sum s (passed t (goal.at.returns-then-up-eq0 t c).Else-stops)
    ∙ stops-top c.args.way c.args.sum s.next (sym c.above-up.ensures ∙ c.if-up-eq0.true))

pub purse-requires-2 : goal.purse-requires-2
purse-requires-2 t c =
    let s = there t (goal.at.purse-requires-2 t c).Else-up-eq0 in
    rw c.above-up.ensures (c.requires.words, s.low, s.high)

pub returns-then-stops-2 : goal.returns-then-stops-2
returns-then-stops-2 t c =
    let at = goal.at.returns-then-stops-2 t c in
    sym (stops-next c.args.way c.args.sum (here t at.Else-k-eq0) (passed t at.Else-stops)
    ∙ stops-here c.args.way c.args.sum (there t at.Else-up-eq0)
    (sym (rw (c.purse-2.ensures, c.above-up.ensures) at c.stops-2.ensures) ∙ c.if-stops-2.true))

pub above-requires : goal.above-requires
above-requires t c =
    let s = there t (goal.at.above-requires t c).Else-up-eq0 in
    rw c.above-up.ensures (c.requires.links, s.low, s.high)

pub climb_stops-requires : goal.climb_stops-requires
climb_stops-requires t c =
    let at = goal.at.climb_stops-requires t c in
    let s = there t at.Else-up-eq0 in
    rw (two_up t at.After-above) (omega (arith, s.fewer, (here t at.Else-k-eq0).fewer, c.decreases), s.next)

pub returns : goal.returns
returns t c =
    let at = goal.at.returns t c in
    (rw (two_up t at.After-above) at c.climb_stops.ensures)
    ∙ sym (stops-next c.args.way c.args.sum (here t at.Else-k-eq0) (passed t at.Else-stops)
    ∙ stops-next c.args.way c.args.sum (there t at.Else-up-eq0)
    (sym (rw (c.purse-2.ensures, c.above-up.ensures) at c.stops-2.ensures) ∙ c.if-stops-2.false))
