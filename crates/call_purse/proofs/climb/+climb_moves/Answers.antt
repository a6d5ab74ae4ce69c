-- The climb moves the sum by each moneyword, two steps of it in each call.
use Prim.Native.Nat.{ℕ, ◌+◌}
use mathlib.Core.Path.{◌≡◌, sym, ap, ◌∙◌}
use mathlib.Core.Bool.{false}
use native.Mathlib.Omega.{arith}
use lib.ListN.{set, length-set}
use Rattle.layout.specs.Layout as Layout
use Rattle.layout.specs.Rows.{parent_of, money_of}
use Rattle.call_purse.specs.Climb.{climb_stops, stops as stops_at, moves as moves_of}
use Rattle.call_purse.proofs.Climbing.{Step, step_of, stops-next, stops-none, moved-top, moved-step, moved-two}
use Rattle.call_purse.proofs.climb.+climb_moves.Goals as goal
use Rattle.call_purse.proofs.climb.+climb_moves.Goals.{Else-k-eq0, After-moves-m, Else-up-eq0, After-above}

-- past the test k is not 0
here : (t : ℕ) (c : Else-k-eq0 t) → Step c.args.links.now c.args.words.now c.args.k
here t c = step_of c.requires.0 c.if-k-eq0.false

-- no moneyword of the climb stops the sum: not k's, and none of the rest
none : (t : ℕ) (c : Else-k-eq0 t) → stops_at c.args.way c.args.sum (money_of c.args.words.now c.args.k) ≡ false
none t c = stops-none c.args.way c.args.sum (here t c) c.requires.1

rest : (t : ℕ) (c : Else-k-eq0 t)
    → climb_stops c.args.way c.args.links.now c.args.words.now (parent_of c.args.links.now c.args.k) c.args.sum ≡ false
rest t c = sym (stops-next c.args.way c.args.sum (here t c) (none t c)) ∙ c.requires.1

-- what k's becomes
value : (t : ℕ) (c : After-moves-m t)
    → c.moves-m.result.0 ≡ moves_of c.args.way c.args.sum (money_of c.args.words.now c.args.k)
value t c = rw c.purse.ensures at c.moves-m.ensures

-- past the second test the slot above k is not 0
there : (t : ℕ) (c : Else-up-eq0 t) → Step c.args.links.now c.args.words.now (parent_of c.args.links.now c.args.k)
there t c = step_of (step_of c.requires.0 c.if-k-eq0.false).next (λ z. c.if-up-eq0.false (c.above-up.ensures ∙ z))

-- the slot two above k
two_up : (t : ℕ) (c : After-above t)
    → c.above.result ≡ parent_of c.args.links.now (parent_of c.args.links.now c.args.k)
two_up t c = c.above.ensures ∙ ap (parent_of c.args.links.now) c.above-up.ensures

pub returns-then-k-eq0 : goal.returns-then-k-eq0
returns-then-k-eq0 t c = sym (moved-top c.args.way c.args.sum c.requires.0 c.if-k-eq0.true)

pub purse-requires : goal.purse-requires
purse-requires t c = let s = here t (goal.at.purse-requires t c).Else-k-eq0 in (c.requires.0.words, s.low, s.high)

pub moves-m-requires : goal.moves-m-requires
moves-m-requires t c = rw c.purse.ensures (none t (goal.at.moves-m-requires t c).Else-k-eq0)

pub above-up-requires : goal.above-up-requires
above-up-requires t c = let s = here t (goal.at.above-up-requires t c).Else-k-eq0 in (c.requires.0.links, s.low, s.high)

-- ---- k is a master

pub overflow_add-words : goal.overflow_add-words
overflow_add-words t c = omega (arith, (here t (goal.at.overflow_add-words t c).Else-k-eq0).high)

pub offset_bounds-words-k : goal.offset_bounds-words-k
offset_bounds-words-k t c = omega (arith, (here t (goal.at.offset_bounds-words-k t c).Else-k-eq0).high)

pub bounds-words-k : goal.bounds-words-k
bounds-words-k t c = omega (arith, (here t (goal.at.bounds-words-k t c).Else-k-eq0).high, c.requires.0.words)

pub returns-then-up-eq0 : goal.returns-then-up-eq0
returns-then-up-eq0 t c =
    let at = goal.at.returns-then-up-eq0 t c in
    let a = c.args in
    let s = here t at.Else-k-eq0 in
    rw (value t at.After-moves-m) (sym (moved-step a.way a.sum s
    ∙ ap (λ u. set u (Layout.MONEY + a.k) (moves_of a.way a.sum (money_of a.words.now a.k)))
    (moved-top a.way a.sum s.next (sym c.above-up.ensures ∙ c.if-up-eq0.true))))

-- ---- there is one above k

pub purse-requires-2 : goal.purse-requires-2
purse-requires-2 t c =
    let s = there t (goal.at.purse-requires-2 t c).Else-up-eq0 in
    rw c.above-up.ensures (c.requires.0.words, s.low, s.high)

pub moves-n-requires : goal.moves-n-requires
moves-n-requires t c =
    let at = goal.at.moves-n-requires t c in
    rw (c.purse-2.ensures, c.above-up.ensures)
    (stops-none c.args.way c.args.sum (there t at.Else-up-eq0) (rest t at.Else-k-eq0))

pub above-requires : goal.above-requires
above-requires t c =
    let s = there t (goal.at.above-requires t c).Else-up-eq0 in
    rw c.above-up.ensures (c.requires.0.links, s.low, s.high)

pub climb_moves-requires : goal.climb_moves-requires
climb_moves-requires t c =
    let at = goal.at.climb_moves-requires t c in
    let a = c.args in
    let s = there t at.Else-up-eq0 in
    let begun = here t at.Else-k-eq0 in
    let later = sym (stops-next a.way a.sum s (stops-none a.way a.sum s (rest t at.Else-k-eq0))) ∙ rest t at.Else-k-eq0 in
    rw (two_up t at.After-above) (omega (arith, s.fewer, begun.fewer, c.decreases), (s.next, later))

pub overflow_add-words-2 : goal.overflow_add-words-2
overflow_add-words-2 t c = omega (arith, (there t (goal.at.overflow_add-words-2 t c).Else-up-eq0).high, c.above-up.ensures)

pub offset_bounds-words-up : goal.offset_bounds-words-up
offset_bounds-words-up t c = omega (arith, (there t (goal.at.offset_bounds-words-up t c).Else-up-eq0).high, c.above-up.ensures)

pub bounds-words-up : goal.bounds-words-up
bounds-words-up t c =
    omega (
      arith,
      (there t (goal.at.bounds-words-up t c).Else-up-eq0).high,
      c.above-up.ensures,
      c.climb_moves.auto.words,
      c.requires.0.words,
    )

pub overflow_add-words-3 : goal.overflow_add-words-3
overflow_add-words-3 t c = omega (arith, (here t (goal.at.overflow_add-words-3 t c).Else-k-eq0).high)

pub offset_bounds-words-k-2 : goal.offset_bounds-words-k-2
offset_bounds-words-k-2 t c = omega (arith, (here t (goal.at.offset_bounds-words-k-2 t c).Else-k-eq0).high)

pub bounds-words-k-2 : goal.bounds-words-k-2
bounds-words-k-2 t c =
    simp length-set (omega (
      arith,
      (here t (goal.at.bounds-words-k-2 t c).Else-k-eq0).high,
      c.climb_moves.auto.words,
      c.requires.0.words,
    ))

pub returns : goal.returns
returns t c =
    let at = goal.at.returns t c in
    let over = rw (two_up t at.After-above) at c.climb_moves.ensures in
    let money = rw (c.purse-2.ensures, c.above-up.ensures) at c.moves-n.ensures in
    moved-two c.args.way c.args.sum (here t at.Else-k-eq0) (there t at.Else-up-eq0) _ _ _ _ c.above-up.ensures over money
    (value t at.After-moves-m)
