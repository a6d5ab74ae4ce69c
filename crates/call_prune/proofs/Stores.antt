-- The stores of a leaf that ends, and the turns of the loop, as the code comes to them.
use Prim.Native.Nat.{ℕ, ◌+◌, ◌≤◌, ◌<◌}
use mathlib.Core.Path.{◌≡◌, refl, sym, ◌∙◌}
use mathlib.Core.Logic.{◌≢◌}
use mathlib.Core.List.{List}
use Rattle.std.proofs.Common.{Some, None}
use native.Mathlib.Omega.{arith}
use lib.Dec.{eqb}
use lib.ListN.{length, get_or, set, length-set}
use borrow.Author.Tests.{eq-eqb, ne_eqb}
use Rattle.rules.proofs.Tests.{by-eq, pick_yes, pick-not}
use Rattle.layout.specs.Layout as Layout
use Rattle.layout.specs.Rows.{field, parent_of, first_child_of, next_cap_of, prev_cap_of}
use Rattle.layout.proofs.Field.{field_in}
use Rattle.call_prune.specs.Links.{named_at, freed_cap, dropped_links, turned_links, turned_slot, NamesSlots, TurnLeaves}

-- ---- the cell that names a capability

pub named-first : (p q : ℕ) → q ≡ 0 → named_at p q ≡ Layout.FIRST_CHILD + p
unfolding named_at
named-first p q z = pick_yes (eqb q 0) (Layout.FIRST_CHILD + p) (Layout.NEXT_CAP + q) (eq-eqb q 0 z)

pub named-next : (p q : ℕ) → q ≢ 0 → named_at p q ≡ Layout.NEXT_CAP + q
unfolding named_at
named-next p q nz = pick-not (eqb q 0) (Layout.FIRST_CHILD + p) (Layout.NEXT_CAP + q) (ne_eqb q 0 nz)

pub named-high : (p q : ℕ) → p ≤ 512 → q ≤ 512 → named_at p q < Layout.LINKS
named-high p q hp hq = by-eq q 0
    (λ z. omega (arith, named-first p q z))
    (λ nz. omega (arith, named-next p q nz))

-- ---- a leaf

pub dropped-length : (l : List ℕ) (j : ℕ) → length (dropped_links l j) ≡ length l
unfolding dropped_links freed_cap
dropped-length l j = simp length-set

module _ {l : List ℕ} {j : ℕ} (P : NamesSlots l j) where
  -- the cell of the slot in a row
  pub cell : (off : ℕ) → field 512 off l j ≡ get_or l (off + j) 0
  cell off = field_in 512 off l j P.low P.high

  -- what the code reads: the links of j
  pub record Read (p q s : ℕ) : Type 0 where
    pub parent-read : p ≡ get_or l (Layout.PARENT + j) 0
    pub prev-read : q ≡ get_or l (Layout.PREV_CAP + j) 0
    pub next-read : s ≡ get_or l (Layout.NEXT_CAP + j) 0

  pub read-high : {p q s : ℕ} → Read p q s → (p ≤ 512) × (q ≤ 512) × (s ≤ 512)
  read-high r = (
    omega (arith, r.parent-read, cell Layout.PARENT, P.parent-high),
    omega (arith, r.prev-read, cell Layout.PREV_CAP, P.prev-high),
    omega (arith, r.next-read, cell Layout.NEXT_CAP, P.next-high),
  )

  pub cell-high : {p q s : ℕ} → Read p q s → (c : ℕ) → c ≡ named_at p q → c < Layout.LINKS
  cell-high {p} {q} r c e = let h = read-high r in omega (arith, e, named-high p q h.0 h.1)

  pub dropped-is : {p q s : ℕ} → Read p q s → (c : ℕ) → c ≡ named_at p q
      → freed_cap
      (set (set l c (get_or l (Layout.NEXT_CAP + j) 0)) (Layout.PREV_CAP + s) (get_or l (Layout.PREV_CAP + j) 0)) j
      ≡ dropped_links l j
  unfolding dropped_links
  dropped-is {p} {q} {s} r c e =
      let pe : p ≡ parent_of l j = r.parent-read ∙ sym (cell Layout.PARENT) in
      let qe : q ≡ prev_cap_of l j = r.prev-read ∙ sym (cell Layout.PREV_CAP) in
      let se : s ≡ next_cap_of l j = r.next-read ∙ sym (cell Layout.NEXT_CAP) in
      rw (← cell Layout.PREV_CAP, ← cell Layout.NEXT_CAP, e, pe, qe, se) refl

-- ---- a turn

module _ (l : List ℕ) (k j : ℕ) where
  -- to the first child
  module _ (nz : first_child_of l j ≢ 0) where
    pub down-links : turned_links l k j ≡ l
    unfolding turned_links
    down-links = pick-not (eqb (first_child_of l j) 0) _ l (ne_eqb (first_child_of l j) 0 nz)

    pub down-slot : turned_slot l k j ≡ first_child_of l j
    unfolding turned_slot
    down-slot = pick-not (eqb (first_child_of l j) 0) _ (first_child_of l j) (ne_eqb (first_child_of l j) 0 nz)

  -- at k, which is a leaf, the turns are over
  module _ (z : first_child_of l j ≡ 0) (e : j ≡ k) where
    pub over-links : turned_links l k j ≡ l
    unfolding turned_links
    over-links = pick_yes (eqb (first_child_of l j) 0) _ l (eq-eqb (first_child_of l j) 0 z)
        ∙ pick_yes (eqb j k) l (dropped_links l j) (eq-eqb j k e)

    pub over-slot : turned_slot l k j ≡ 0
    unfolding turned_slot
    over-slot = pick_yes (eqb (first_child_of l j) 0) _ (first_child_of l j) (eq-eqb (first_child_of l j) 0 z)
        ∙ pick_yes (eqb j k) 0 (parent_of l j) (eq-eqb j k e)

  -- another leaf ends
  module _ (z : first_child_of l j ≡ 0) (n : j ≢ k) where
    pub up-links : turned_links l k j ≡ dropped_links l j
    unfolding turned_links
    up-links = pick_yes (eqb (first_child_of l j) 0) _ l (eq-eqb (first_child_of l j) 0 z)
        ∙ pick-not (eqb j k) l (dropped_links l j) (ne_eqb j k n)

    pub up-slot : turned_slot l k j ≡ parent_of l j
    unfolding turned_slot
    up-slot = pick_yes (eqb (first_child_of l j) 0) _ (first_child_of l j) (eq-eqb (first_child_of l j) 0 z)
        ∙ pick-not (eqb j k) 0 (parent_of l j) (ne_eqb j k n)

module _ {l : List ℕ} {j : ℕ} (P : NamesSlots l j) (k c : ℕ) (e : c ≡ get_or l (Layout.FIRST_CHILD + j) 0) where
  first-is : first_child_of l j ≡ c
  first-is = cell P Layout.FIRST_CHILD ∙ sym e

  pub turn-down : c ≢ 0 → TurnLeaves l k j l (Some c)
  turn-down nz =
      let ne : first_child_of l j ≢ 0 = λ z. nz (sym first-is ∙ z) in
      record { links-is = sym (down-links l k j ne); slot_is = sym (down-slot l k j ne ∙ first-is); over = λ z _. absurd (ne z) }

  pub turn-over : c ≡ 0 → j ≡ k → TurnLeaves l k j l None
  turn-over z q =
      record { links-is = sym (over-links l k j (first-is ∙ z) q); slot_is = sym (over-slot l k j (first-is ∙ z) q); over = λ _ _. refl }

  pub turn_up : c ≡ 0 → j ≢ k → (u : ℕ) → u ≡ get_or l (Layout.PARENT + j) 0 → (l' : List ℕ) → l' ≡ dropped_links l j
      → TurnLeaves l k j l' (Some u)
  turn_up z n u r l' d = record {
    links-is = d ∙ sym (up-links l k j (first-is ∙ z) n);
    slot_is = r ∙ sym (cell P Layout.PARENT) ∙ sym (up-slot l k j (first-is ∙ z) n);
    over = λ _ q. absurd (n q);
  }
