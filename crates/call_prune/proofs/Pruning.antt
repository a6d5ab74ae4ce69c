-- The turns that end all below k. Each keeps the shape, and ends none that is not below k; there are few; and
-- once they are over nobody that lives is below k.
use Prim.Native.Nat.{ℕ}
use mathlib.Core.Path.{◌≡◌, refl, sym, ap, ◌∙◌, subst}
use mathlib.Core.Logic.{◌≢◌, ◌⊎◌, inl, inr, ⊎_elim}
use mathlib.Core.List.{List, ◌∷◌}
use native.Mathlib.Omega.{arith}
use lib.ListN.{length}
use Rattle.rules.specs.Valid.{Climbs, top, step}
use Rattle.rules.proofs.Tests.{by-eq}
use Rattle.rules.proofs.Slots.{at_here, at-else}
use Rattle.rules.proofs.Climbs.{OneOf, climbs-none}
use Rattle.layout.specs.Layout as Layout
use Rattle.layout.specs.Rows.{owner_of, parent_of, first_child_of}
use Rattle.layout.specs.Shape.{Shape}
use Rattle.layout.proofs.Field.{field-low}
use Rattle.layout.proofs.Shaped.{shaped}
use Rattle.call_prune.specs.Links.{dropped_links, turned_links, turned_slot, NamesSlots, LivingCap}
use Rattle.call_prune.proofs.Stores.{down-links, down-slot, over-links, over-slot, up-links, up-slot}
use Rattle.call_prune.proofs.Dropping.{SameRows, rows_same, rows_then, dropped-rows, dropped-owners}
use Rattle.call_prune.proofs.Shapes.{In, in_tree, placed, dropped-shape}

-- ---- below k

-- the climb from i's parent meets k: i is a descendant of k, and not k
pub record Under (p : ℕ → ℕ) (k i : ℕ) : Type 0 where
  pub way : List ℕ
  pub climbs : Climbs p (p i) way
  pub meets : OneOf k way

-- where a climb meets k it starts there, or below it
pub meets_under : {p : ℕ → ℕ} {k i : ℕ} {xs : List ℕ} → Climbs p i xs → OneOf k xs → (i ≡ k) ⊎ Under p k i
meets_under top o = absurd o
meets_under (step n c) (inl e) = inl (sym e)
meets_under (step {xs = xs} n c) (inr o) = inr (record { way = xs; climbs = c; meets = o })

under-meets : {p : ℕ → ℕ} {k i : ℕ} {xs : List ℕ} → Climbs p i xs → i ≢ 0 → i ≡ k → OneOf k xs
under-meets top nz e = absurd (nz refl)
under-meets (step n c) nz e = inl (sym e)

-- a child of k, or of one below it, is below k
child-under : (p : ℕ → ℕ) (k i c : ℕ) (xs : List ℕ) → p c ≡ i → i ≢ 0 → Climbs p i xs → (i ≡ k) ⊎ Under p k i
    → Under p k c
child-under p k i c xs e nz u (inl q) =
    record { way = xs; climbs = subst (λ x. Climbs p x xs) (sym e) u; meets = under-meets u nz q }
child-under p k i c xs e nz u (inr v) = record {
  way = i ∷ v.way;
  climbs = subst (λ x. Climbs p x (i ∷ v.way)) (sym e) (step nz v.climbs);
  meets = inr v.meets;
}

-- ---- the turns

pub turn_by : (Q : List ℕ → ℕ → Type 0) (l : List ℕ) (k j : ℕ)
    → (first_child_of l j ≢ 0 → Q l (first_child_of l j))
    → (first_child_of l j ≡ 0 → j ≡ k → Q l 0)
    → (first_child_of l j ≡ 0 → j ≢ k → Q (dropped_links l j) (parent_of l j))
    → Q (turned_links l k j) (turned_slot l k j)
turn_by Q l k j down over up = by-eq (first_child_of l j) 0
    (λ z. by-eq j k
    (λ e. rw (over-links l k j z e, over-slot l k j z e) (over z e))
    (λ n. rw (up-links l k j z n, up-slot l k j z n) (up z n)))
    (λ nz. rw (down-links l k j nz, down-slot l k j nz) (down nz))

-- the links l once some below k have ended, with the next turn at slot j
pub record Pruning (l₀ : List ℕ) (k : ℕ) (l : List ℕ) (j : ℕ) : Type 0 where
  pub rows : SameRows l₀ l
  pub shape : Shape l
  pub live : owner_of l k ≢ 0
  -- a record is of the object that it was of, or it is below k and has ended
  pub ends : (i : ℕ) → (owner_of l i ≡ owner_of l₀ i) ⊎ ((owner_of l i ≡ 0) × Under (parent_of l₀) k i)
  -- the turn is at a living one, k or below it
  pub turn-live : j ≢ 0 → owner_of l j ≢ 0
  pub turn-under : j ≢ 0 → (j ≡ k) ⊎ Under (parent_of l₀) k j
  -- no turn: k is a leaf
  pub leaf : j ≡ 0 → first_child_of l k ≡ 0

pub pruning-start : {l : List ℕ} {k : ℕ} → LivingCap l k → Pruning l k l k
pruning-start {l} {k} L = record {
  rows = rows_same l;
  shape = L.shape;
  live = L.live;
  ends = λ i. inl refl;
  turn-live = λ _. L.live;
  turn-under = λ _. inl refl;
  leaf = λ z. absurd (omega (arith, z, field-low 512 Layout.OWNER l k L.live));
}

module _ {l₀ : List ℕ} {k : ℕ} (size : length l₀ ≡ Layout.LINKS) {l : List ℕ} {j : ℕ} (T : Pruning l₀ k l j)
    (some : j ≢ 0) where
  sized : length l ≡ Layout.LINKS
  sized = T.rows.sized ∙ size

  alive : owner_of l j ≢ 0
  alive = T.turn-live some

  pub turn-placed : NamesSlots l j
  turn-placed = placed l sized T.shape.caps j alive

  abbrev I : In l T.shape.caps.tree j
  I = in_tree l T.shape.caps j alive

  parents : (i : ℕ) → parent_of l i ≡ parent_of l₀ i
  parents i = λ x. T.rows.parents x i

  -- ---- down

  module _ (nz : first_child_of l j ≢ 0) where
    abbrev c : ℕ
    c = first_child_of l j

    pub child-parent : parent_of l c ≡ j
    child-parent = I.place.child-is nz

    pub child-live : owner_of l c ≢ 0
    child-live z = omega (arith, I.place.first-near.near-owner nz, z, I.object-low)

    down : Pruning l₀ k l c
    down =
        let e = ((shaped l T.shape).cap j alive).ends in
        record {
          rows = T.rows;
          shape = T.shape;
          live = T.live;
          ends = T.ends;
          turn-live = λ _. child-live;
          turn-under = λ _. inr (child-under (parent_of l₀) k j c e.0 (sym (parents c) ∙ child-parent) some
              (subst (λ (p : ℕ → ℕ). Climbs p j e.0) T.rows.parents e.1) (T.turn-under some));
          leaf = λ z. absurd (nz z);
        }

  -- ---- at k

  over : first_child_of l j ≡ 0 → j ≡ k → Pruning l₀ k l 0
  over z e = record {
    rows = T.rows;
    shape = T.shape;
    live = T.live;
    ends = T.ends;
    turn-live = λ nz. absurd (nz refl);
    turn-under = λ nz. absurd (nz refl);
    leaf = λ _. ap (first_child_of l) (sym e) ∙ z;
  }

  -- ---- up

  module _ (z : first_child_of l j ≡ 0) (n : j ≢ k) where
    abbrev u : ℕ
    u = parent_of l j

    abbrev l' : List ℕ
    l' = dropped_links l j

    under : Under (parent_of l₀) k j
    under = ⊎_elim (λ e. absurd (n e)) (λ v. v) (T.turn-under some)

    pub has-parent : parent_of l j ≢ 0
    has-parent e = climbs-none under.climbs k under.meets (sym (parents j) ∙ e)

    owner-else : (i : ℕ) → i ≢ j → owner_of l' i ≡ owner_of l i
    owner-else i ne = (λ x. dropped-owners turn-placed has-parent x i) ∙ at-else (owner_of l) j 0 i ne

    owner_here : owner_of l' j ≡ 0
    owner_here = (λ x. dropped-owners turn-placed has-parent x j) ∙ at_here (owner_of l) j 0

    -- a parent is no leaf
    up-else : parent_of l j ≢ j
    up-else e = I.place.parent-first has-parent (ap (first_child_of l) e ∙ z)

    up-live : owner_of l (parent_of l j) ≢ 0
    up-live = ((shaped l T.shape).cap j alive).parent-lives has-parent

    up : Pruning l₀ k l' u
    up = record {
      rows = rows_then T.rows (dropped-rows turn-placed has-parent);
      shape = dropped-shape l j sized T.shape alive has-parent z;
      live = λ e. T.live (sym (owner-else k (λ q. n (sym q))) ∙ e);
      ends = λ i. by-eq i j
          (λ e. inr (ap (owner_of l') e ∙ owner_here, subst (Under (parent_of l₀) k) (sym e) under))
          (λ ne. ⊎_elim (λ e. inl (owner-else i ne ∙ e)) (λ e. inr (owner-else i ne ∙ e.0, e.1)) (T.ends i));
      turn-live = λ _ e. up-live (sym (owner-else u up-else) ∙ e);
      turn-under = λ _. subst (λ x. (x ≡ k) ⊎ Under (parent_of l₀) k x) (sym (parents j))
          (meets_under under.climbs under.meets);
      leaf = λ e. absurd (has-parent e);
    }

  pub pruning-turn : Pruning l₀ k (turned_links l k j) (turned_slot l k j)
  pruning-turn = turn_by (Pruning l₀ k) l k j down over up
