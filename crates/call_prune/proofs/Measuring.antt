-- How many turns are left: each one goes a step down the tree, or ends a capability and goes a step up.
use Prim.Native.Nat.{ℕ, zero, suc, ◌+◌, ◌*◌, ◌-◌, ◌≤◌, ◌<◌}
use mathlib.Core.Path.{◌≡◌, refl, sym, ap, ◌∙◌, subst}
use mathlib.Core.Logic.{◌≢◌}
use mathlib.Core.Bool.{Bool, true, false}
use mathlib.Core.List.{List, ◌∷◌}
use Rattle.std.proofs.Common.{Some, None}
use native.Mathlib.Omega.{arith}
use lib.Dec.{eqb}
use lib.ListN.{length}
use borrow.Author.Tests.{eq-eqb, ne_eqb}
use Rattle.rules.specs.Slots.{at, climb, one, sum_over}
use Rattle.rules.specs.Valid.{Climbs, step}
use Rattle.rules.proofs.Tests.{by-eq, pick_yes, pick-not}
use Rattle.rules.proofs.Slots.{sum-at}
use Rattle.rules.proofs.Climbs.{climbs-all, climb-few}
use Rattle.layout.specs.Layout as Layout
use Rattle.layout.specs.Rows.{owner_of, parent_of, first_child_of}
use Rattle.layout.specs.View.{is_set}
use Rattle.layout.specs.Shape.{Shape}
use Rattle.layout.proofs.Field.{field-low, field-high}
use Rattle.layout.proofs.Shaped.{shaped}
use Rattle.layout.proofs.Shown.{set-yes}
use Rattle.call_prune.specs.Links.{dropped_links, turned_links, turned_slot, pruned_from, pruned_links, NamesSlots, LivingCap, TurnLeaves}
use Rattle.call_prune.proofs.Shapes.{placed}
use Rattle.call_prune.proofs.Dropping.{dropped-rows, dropped-owners}
use Rattle.call_prune.proofs.Pruning.{Pruning, pruning-start, turn-placed, turn_by, child-parent, child-live, has-parent}
use Rattle.call_prune.proofs.Pruning.{pruning-turn}

-- ---- how many capabilities live

living : List ℕ → ℕ
living l = sum_over 512 (λ i. one (is_set (owner_of l i)))

one-high : (b : Bool) → one b ≤ 1
unfolding one
one-high true = omega arith
one-high false = omega arith

count-high : (n : ℕ) (t : ℕ → Bool) → sum_over n (λ i. one (t i)) ≤ n
unfolding sum_over
count-high zero t = omega arith
count-high (suc n) t = omega (arith, one-high (t (suc n)), count-high n t)

-- ---- how deep a capability stands

depth : List ℕ → ℕ → ℕ
depth l i = length (climb 512 (parent_of l) i)

climb-cons : (n : ℕ) (p : ℕ → ℕ) (i : ℕ) (b : Bool) → eqb i 0 ≡ b → length (climb n p (p i)) ≤ n
    → length (climb (suc n) p i) ≤ suc n
unfolding climb
climb-cons n p i true e h = rw (e, climb) (omega arith)
climb-cons n p i false e h = rw (e, climb) (omega arith)

climb-high : (n : ℕ) (p : ℕ → ℕ) (i : ℕ) → length (climb n p i) ≤ n
unfolding climb
climb-high zero p i = omega arith
climb-high (suc n) p i = climb-cons n p i (eqb i 0) refl (climb-high n p (p i))

module _ (l : List ℕ) (S : Shape l) where
  depth_is : (i : ℕ) → owner_of l i ≢ 0 → (xs : List ℕ) → Climbs (parent_of l) i xs → climb 512 (parent_of l) i ≡ xs
  depth_is i alive xs u = climb-few 512 u (λ k o.
      let h : owner_of l k ≢ 0 = climbs-all (λ j. owner_of l j ≢ 0) (λ j g. ((shaped l S).cap j g).parent-lives)
      (λ n. alive) u k o in
      (field-low 512 Layout.OWNER l k h, field-high 512 Layout.OWNER l k h))

  -- one deeper than its parent
  depth-child : (i : ℕ) → owner_of l i ≢ 0 → parent_of l i ≢ 0 → depth l i ≡ suc (depth l (parent_of l i))
  unfolding depth
  depth-child i alive child =
      let up = ((shaped l S).cap i alive).parent-lives child in
      let e = ((shaped l S).cap (parent_of l i) up).ends in
      let nz : i ≢ 0 = λ z. omega (arith, z, field-low 512 Layout.OWNER l i alive) in
      ap length (depth_is i alive (i ∷ e.0) (step nz e.1))
      ∙ ap (λ (xs : List ℕ). suc (length xs)) (sym (depth_is (parent_of l i) up e.0 e.1))

-- ---- the measure

pub left : List ℕ → ℕ → ℕ
left l j = elim (eqb j 0) [ true ↦ 0 | false ↦ suc (2 * living l + (512 - depth l j)) ]

left-none : (l : List ℕ) → left l 0 ≡ 0
unfolding left
left-none l = refl

left-some : (l : List ℕ) (j : ℕ) → j ≢ 0 → left l j ≡ suc (2 * living l + (512 - depth l j))
unfolding left
left-some l j nz = pick-not (eqb j 0) 0 (suc (2 * living l + (512 - depth l j))) (ne_eqb j 0 nz)

left-high : (l : List ℕ) (j : ℕ) → left l j ≤ 2048
unfolding living
left-high l j = by-eq j 0
    (λ z. omega (arith, ap (left l) z, left-none l))
    (λ nz. omega (arith, left-some l j nz, count-high 512 (λ i. is_set (owner_of l i))))

module _ {l₀ : List ℕ} {k : ℕ} (size : length l₀ ≡ Layout.LINKS) {l : List ℕ} {j : ℕ} (T : Pruning l₀ k l j)
    (some : j ≢ 0) where
  less-down : first_child_of l j ≢ 0 → left l (first_child_of l j) < left l j
  unfolding depth
  less-down nz =
      let c : ℕ = first_child_of l j in
      let e : parent_of l c ≡ j = child-parent size T some nz in
      let d : depth l c ≡ suc (depth l (parent_of l c)) =
      depth-child l T.shape c (child-live size T some nz) (λ z. some (sym e ∙ z)) in
      omega (arith, left-some l j some, left-some l c nz, d, ap (depth l) e, climb-high 512 (parent_of l) c)

  living-less : (z : first_child_of l j ≡ 0) (n : j ≢ k) → living (dropped_links l j) + 1 ≡ living l
  unfolding living one is_set
  living-less z n =
      let P = turn-placed size T some in
      let e = sum-at 512 (λ x. one (is_set x)) (owner_of l) j 0 P.low P.high in
      let a : one (is_set (owner_of l j)) ≡ 1 = ap one (set-yes (owner_of l j) (T.turn-live some)) in
      let b : sum_over 512 (λ i. one (is_set (owner_of (dropped_links l j) i)))
      ≡ sum_over 512 (λ i. one (is_set (at (owner_of l) j 0 i))) =
      ap (λ (f : ℕ → ℕ). sum_over 512 (λ i. one (is_set (f i)))) (dropped-owners P (has-parent size T some z n)) in
      omega (arith, e, a, b)

  less-up : first_child_of l j ≡ 0 → j ≢ k → left (dropped_links l j) (parent_of l j) < left l j
  unfolding depth
  less-up z n =
      let P = turn-placed size T some in
      let h = has-parent size T some z n in
      let d : depth l j ≡ suc (depth l (parent_of l j)) = depth-child l T.shape j (T.turn-live some) h in
      let e : depth (dropped_links l j) (parent_of l j) ≡ depth l (parent_of l j) =
      ap (λ (p : ℕ → ℕ). length (climb 512 p (parent_of l j))) (dropped-rows P h).parents in
      omega (
        arith,
        left-some l j some,
        left-some (dropped_links l j) (parent_of l j) h,
        d,
        e,
        living-less z n,
        climb-high 512 (parent_of l) j,
      )

  pub left-falls : left (turned_links l k j) (turned_slot l k j) < left l j
  left-falls = turn_by (λ m i. left m i < left l j) l k j less-down
      (λ _ _. omega (arith, left-none l, left-some l j some)) less-up

-- ---- so the turns come to an end

pub from_end : (n : ℕ) (l : List ℕ) (k j : ℕ) → j ≡ 0 → pruned_from n l k j ≡ l
unfolding pruned_from
from_end zero l k j z = refl
from_end (suc n) l k j z = pick_yes (eqb j 0) l _ (eq-eqb j 0 z)

pub from-turn : (n : ℕ) (l : List ℕ) (k j : ℕ) → j ≢ 0
    → pruned_from (suc n) l k j ≡ pruned_from n (turned_links l k j) k (turned_slot l k j)
unfolding pruned_from
from-turn n l k j nz = pick-not (eqb j 0) l _ (ne_eqb j 0 nz)

-- the turns so far, and those that are left
pub record Turning (l₀ : List ℕ) (k : ℕ) (l : List ℕ) (j : ℕ) : Type 0 where
  pub size : length l₀ ≡ Layout.LINKS
  pub state : Pruning l₀ k l j
  pub turns : ℕ
  pub enough : left l j ≤ turns
  pub same : pruned_links l₀ k ≡ pruned_from turns l k j

pub turning-start : {l : List ℕ} {k : ℕ} → LivingCap l k → Turning l k l k
unfolding pruned_links
turning-start {l} {k} L = record {
  size = L.links;
  state = pruning-start L;
  turns = 2048;
  enough = left-high l k;
  same = refl;
}

some-none : {i : ℕ} → Some i ≢ None
some-none e = cc

-- a turn that goes on does so at a slot
pub turn-on : {l₀ l l' : List ℕ} {k j i : ℕ} → Turning l₀ k l j → j ≢ 0 → TurnLeaves l k j l' (Some i) → i ≢ 0
turn-on {l₀} {l} {l'} {k} {j} {i} t some T = turn_by (λ _ s. i ≡ s → i ≢ 0) l k j
    (λ nz e z. nz (sym e ∙ z))
    (λ z e _. absurd (some-none (T.over z e)))
    (λ z n e q. has-parent t.size t.state some z n (sym e ∙ q))
    T.slot_is

pub turning-at : {l : List ℕ} {k : ℕ} → LivingCap l k → k ≢ 0
turning-at {l} {k} L z = omega (arith, z, field-low 512 Layout.OWNER l k L.live)

turning-step : {l₀ l : List ℕ} {k j : ℕ} → length l₀ ≡ Layout.LINKS → Pruning l₀ k l j → j ≢ 0
    → (n : ℕ) → left l j ≤ n → pruned_links l₀ k ≡ pruned_from n l k j
    → Turning l₀ k (turned_links l k j) (turned_slot l k j)
turning-step {l₀} {l} {k} {j} z T some zero h e = absurd (omega (arith, left-some l j some))
turning-step {l₀} {l} {k} {j} z T some (suc n) h e = record {
  size = z;
  state = pruning-turn z T some;
  turns = n;
  enough = omega (arith, left-falls z T some);
  same = e ∙ from-turn n l k j some;
}

pub turning-more : {l₀ l : List ℕ} {k j : ℕ} → Turning l₀ k l j → j ≢ 0
    → Turning l₀ k (turned_links l k j) (turned_slot l k j)
turning-more t some = turning-step t.size t.state some t.turns t.enough t.same

pub turning-end : {l₀ l : List ℕ} {k j : ℕ} → Turning l₀ k l j → j ≡ 0 → l ≡ pruned_links l₀ k
turning-end {l₀} {l} {k} {j} t z = sym (t.same ∙ from_end t.turns l k j z)

-- what is left once all turns are over
pruned-from : (n : ℕ) {l₀ l : List ℕ} {k j : ℕ} → length l₀ ≡ Layout.LINKS → Pruning l₀ k l j → left l j ≤ n
    → Pruning l₀ k (pruned_from n l k j) 0
pruned-from zero {l₀} {l} {k} {j} z T h = by-eq j 0
    (λ e. rw (from_end zero l k j e) (subst (Pruning l₀ k l) e T))
    (λ some. absurd (omega (arith, left-some l j some)))
pruned-from (suc n) {l₀} {l} {k} {j} z T h = by-eq j 0
    (λ e. rw (from_end (suc n) l k j e) (subst (Pruning l₀ k l) e T))
    (λ some. rw (from-turn n l k j some)
    (pruned-from n z (pruning-turn z T some) (omega (arith, left-falls z T some))))

pub pruned : {l : List ℕ} {k : ℕ} → LivingCap l k → Pruning l k (pruned_links l k) 0
unfolding pruned_links
pruned {l} {k} L = pruned-from 2048 L.links (pruning-start L) (left-high l k)

-- k is left in its place
pub pruned-placed : {l : List ℕ} {k : ℕ} → LivingCap l k → NamesSlots (pruned_links l k) k
pruned-placed {l} {k} L =
    let T = pruned L in
    placed (pruned_links l k) (T.rows.sized ∙ L.links) T.shape.caps k T.live
