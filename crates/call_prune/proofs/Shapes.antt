-- The shape of the links: it places every living capability, and is kept where a leaf that is no master ends.
use Prim.Native.Nat.{ℕ, ◌+◌, ◌≤◌}
use mathlib.Core.Path.{◌≡◌, refl, sym, ap, ◌∙◌, subst}
use mathlib.Core.Logic.{◌≢◌, inr}
use mathlib.Core.List.{List, ◌∷◌}
use native.Mathlib.Omega.{arith}
use lib.ListN.{length, get_or}
use Rattle.rules.specs.Slots.{at, sum_over}
use Rattle.rules.proofs.Tests.{by-eq}
use Rattle.rules.proofs.Slots.{at_here, at-else, at-by, sum-but}
use Rattle.layout.specs.Layout as Layout
use Rattle.layout.specs.Rows.{master_of, owner_of, parent_of, first_child_of, next_cap_of, prev_cap_of}
use Rattle.layout.specs.Shape.{Chain, times, Forest, nil, node, count, Sound, SoundIn, TreeOf, Caps, Shape}
use Rattle.layout.proofs.Field.{field-low, field-high}
use Rattle.layout.proofs.Kept.{objects-kept, blocks-kept}
use Rattle.layout.proofs.Counts.{one-other, sum-some}
use Rattle.layout.proofs.Linking.{sum_one, sum-two, chain-frame}
use Rattle.call_prune.specs.Links.{dropped_links, NamesSlots}
use Rattle.call_prune.proofs.Around.{Around, around}
use Rattle.call_prune.proofs.Removing.{without, without-else, without-none, Distinct, without-sound, without-count}
use Rattle.call_prune.proofs.Dropping.{dropped-owners, dropped-rows, free-head, free-next, next-kept, unlinks}

abbrev pub AroundIn : List ℕ → ℕ → ℕ → Type 0
AroundIn l = Around (owner_of l) (parent_of l) (first_child_of l) (next_cap_of l) (prev_cap_of l)

-- ---- each living capability stands in a tree

-- j stands in the tree of object o
pub record In (l : List ℕ) (F : ℕ → Forest) (j : ℕ) : Type 0 where
  pub object : ℕ
  pub object-low : 1 ≤ object
  pub object-high : object ≤ 64
  pub counted : 1 ≤ count j (F object)
  pub place : AroundIn l object j

module _ (l : List ℕ) (c : Caps l) where
  whole : (o : ℕ) → 1 ≤ o → o ≤ 64 → (k : ℕ) → 1 ≤ count k (c.tree o) → SoundIn l o 0 0 (master_of l o) (c.tree o)
  unfolding count
  whole o lo hi k n = by-eq (master_of l o) 0
      (λ z. absurd (omega (arith, n, ap (λ x. count k x) ((c.trees o lo hi).dead z))))
      (λ alive. ((c.trees o lo hi).live alive).2)

  around-tree : (o : ℕ) → 1 ≤ o → o ≤ 64 → (k : ℕ) → 1 ≤ count k (c.tree o) → AroundIn l o k
  around-tree o lo hi k n =
      around (owner_of l) (parent_of l) (first_child_of l) (next_cap_of l) (prev_cap_of l) o (master_of l o) (c.tree o)
      (whole o lo hi k n) k n

  pub in_tree : (j : ℕ) → owner_of l j ≢ 0 → In l c.tree j
  in_tree j alive =
      let low : 1 ≤ j = field-low 512 Layout.OWNER l j alive in
      let high : j ≤ 512 = field-high 512 Layout.OWNER l j alive in
      let none : times j c.free ≡ 0 = by-eq (times j c.free) 0 (λ z. z)
      (λ nz. absurd (alive (c.free-owner j (omega arith)))) in
      let t = sum-some 64 (λ o. count j (c.tree o)) (omega (arith, c.once j low high)) in
      record {
        object = t.0;
        object-low = t.1;
        object-high = t.2;
        counted = t.3;
        place = around-tree t.0 t.1 t.2 j t.3;
      }

  distinct : (o : ℕ) → 1 ≤ o → o ≤ 64 → Distinct (c.tree o)
  distinct o lo hi k = by-eq (count k (c.tree o)) 0
      (λ z. omega (arith, z))
      (λ nz.
      let A = around-tree o lo hi k (omega arith) in
      omega (arith, sum_one 64 (λ i. count k (c.tree i)) o lo hi, c.once k A.low A.high))

  no_zero : (o : ℕ) → 1 ≤ o → o ≤ 64 → count 0 (c.tree o) ≡ 0
  no_zero o lo hi = by-eq (count 0 (c.tree o)) 0 (λ z. z)
      (λ nz. absurd (omega (arith, (around-tree o lo hi 0 (omega arith)).low)))

-- so its links name slots
pub placed : (l : List ℕ) → length l ≡ Layout.LINKS → Caps l → (j : ℕ) → owner_of l j ≢ 0 → NamesSlots l j
placed l z c j alive =
    let A = (in_tree l c j alive).place in
    record {
      links = z;
      low = A.low;
      high = A.high;
      parent-high = A.parent-near.near-high;
      next-high = A.next-near.near-high;
      prev-high = A.prev-near.near-high;
    }

-- ---- the trees and the free records once the leaf j has ended

module _ {l : List ℕ} {j : ℕ} (P : NamesSlots l j) (child : parent_of l j ≢ 0) (c : Caps l)
    (alive : owner_of l j ≢ 0) (leaf : first_child_of l j ≡ 0) where
  abbrev l' : List ℕ
  l' = dropped_links l j

  abbrev I : In l c.tree j
  I = in_tree l c j alive

  abbrev A : AroundIn l I.object j
  A = I.place

  abbrev less : Forest
  less = without j (c.tree I.object)

  sound-less : (o h : ℕ) (F : Forest) → h ≢ j → SoundIn l o 0 0 h F → count 0 F ≡ 0 → Distinct F
      → SoundIn l' o 0 0 h (without j F)
  sound-less o h F ne S z d =
      without-sound (owner_of l) (parent_of l) (first_child_of l) (next_cap_of l) (prev_cap_of l)
      (owner_of l') (parent_of l') (first_child_of l') (next_cap_of l') (prev_cap_of l') j (parent_of l j) (prev_cap_of l j)
      (next_cap_of l j) (unlinks P child) P.low refl refl refl leaf (A.first-is child) A.next-is A.prev-is o
      0 0 h h F (inr (ne, refl)) (λ e. omega (arith, P.low)) S z z d

  -- every tree without j; only one has it
  tree-less : (o : ℕ) → 1 ≤ o → o ≤ 64 → TreeOf l' o (without j (c.tree o))
  unfolding Sound without
  tree-less o lo hi = rw (dropped-rows P child).masters (record {
    live = λ m.
        let t = (c.trees o lo hi).live m in
        let S : SoundIn l o 0 0 (master_of l o) (node (master_of l o) t.0 nil) = rw t.1 at t.2 in
        let ne : master_of l o ≢ j = λ e. child (ap (parent_of l) (sym e) ∙ S.1.parent_is) in (
          without j t.0,
          ap (without j) t.1 ∙ without-else j (master_of l o) t.0 nil ne,
          sound-less o (master_of l o) (c.tree o) ne t.2 (no_zero l c o lo hi) (distinct l c o lo hi),
        );
    dead = λ z. ap (without j) ((c.trees o lo hi).dead z);
  })

  other_none : (o : ℕ) → 1 ≤ o → o ≤ 64 → o ≢ I.object → count j (c.tree o) ≡ 0
  other_none o lo hi ne =
      omega (
        arith,
        sum-two 64 (λ i. count j (c.tree i)) o I.object lo hi I.object-low I.object-high ne,
        c.once j P.low P.high,
        I.counted,
      )

  once-less : (k : ℕ) → 1 ≤ k → k ≤ 512
      → sum_over 64 (λ o. count k (at c.tree I.object less o)) + times k (j ∷ c.free) ≡ 1
  unfolding times
  once-less k lo hi =
      let o : ℕ = I.object in
      let F : ℕ → ℕ = λ i. count k (c.tree i) in
      let G : ℕ → ℕ = λ i. count k (at c.tree I.object less i) in
      let one-j : count j (c.tree o) ≡ 1 =
      omega (arith, I.counted, distinct l c o I.object-low I.object-high j) in
      omega (
        arith,
        c.once k lo hi,
        sum-but 64 F G o I.object-low I.object-high (λ i ne. ap (count k) (at-else c.tree o less i ne)),
        ap (count k) (at_here c.tree o less),
        without-count (owner_of l) (parent_of l) (first_child_of l) (next_cap_of l) (prev_cap_of l)
            (owner_of l') (parent_of l') (first_child_of l') (next_cap_of l') (prev_cap_of l') j (parent_of l j) (prev_cap_of l j)
            (next_cap_of l j) (unlinks P child) P.low refl refl refl leaf (A.first-is child) A.next-is
            A.prev-is o k 0 0 (master_of l o) (c.tree o)
            (whole l c o I.object-low I.object-high j I.counted) one-j,
      )

  owner-else : (k : ℕ) → k ≢ j → owner_of l' k ≡ owner_of l k
  owner-else k ne = (λ i. dropped-owners P child i k) ∙ at-else (owner_of l) j 0 k ne

  owner-none : owner_of l' j ≡ 0
  owner-none = (λ i. dropped-owners P child i j) ∙ at_here (owner_of l) j 0

  free-kept : (k : ℕ) → 1 ≤ times k c.free → next_cap_of l' k ≡ next_cap_of l k
  free-kept k n =
      let z : owner_of l k ≡ 0 = c.free-owner k n in
      next-kept P child k (λ e. alive (ap (owner_of l) (sym e) ∙ z))
      (λ e nz. omega (arith, I.object-low, sym (A.prev-near.near-owner nz) ∙ ap (owner_of l) (sym e) ∙ z))

  dropped-caps : Caps l'
  unfolding Chain times
  dropped-caps = record {
    tree = at c.tree I.object less;
    free = j ∷ c.free;
    trees = at-by (λ o F. 1 ≤ o → o ≤ 64 → TreeOf l' o F) c.tree I.object less (tree-less I.object)
        (λ o ne lo hi. subst (TreeOf l' o) (without-none j (c.tree o) (other_none o lo hi ne)) (tree-less o lo hi));
    free-chain = (
      free-head P child,
      P.low,
      P.high,
      rw (free-next P child)
          (chain-frame 512 (next_cap_of l) (next_cap_of l') (get_or l Layout.FREE_CAPS 0) c.free c.free-chain free-kept),
    );
    free-owner = λ k n. by-eq k j
        (λ e. ap (owner_of l') e ∙ owner-none)
        (λ ne. owner-else k ne ∙ c.free-owner k (omega (arith, n, one-other k j ne)));
    once = once-less;
  }

-- the leaf j, no master, has ended
pub dropped-shape : (l : List ℕ) (j : ℕ) → length l ≡ Layout.LINKS → Shape l → owner_of l j ≢ 0 → parent_of l j ≢ 0
    → first_child_of l j ≡ 0 → Shape (dropped_links l j)
dropped-shape l j z S alive child leaf =
    let P = placed l z S.caps j alive in
    let R = dropped-rows P child in
    record {
      objects = objects-kept l (dropped_links l j) R.masters R.next-objects R.objects R.free-objects
          S.objects;
      caps = dropped-caps P child S.caps alive leaf;
      blocks = blocks-kept l (dropped_links l j) R.masters R.sizes R.first-blocks R.next-blocks
          R.free-blocks S.blocks;
    }
