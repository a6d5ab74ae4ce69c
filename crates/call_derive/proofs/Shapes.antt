-- The shape of the links with the child linked: its object's tree has one record more, the free list one less.
use Prim.Native.Nat.{ℕ, ◌+◌, ◌≤◌}
use mathlib.Core.Path.{◌≡◌, refl, sym, ap, ◌∙◌, subst}
use mathlib.Core.Logic.{◌≢◌, ◌⊎◌, ⊎_elim}
use mathlib.Core.List.{List}
use native.Mathlib.Omega.{arith}
use lib.ListN.{length, get_or}
use Rattle.rules.specs.Slots.{at, sum_over}
use Rattle.rules.specs.Store.{Cap}
use Rattle.rules.proofs.Tests.{by-eq}
use Rattle.rules.proofs.Slots.{at_here, at-else, sum-but}
use Rattle.layout.specs.Layout as Layout
use Rattle.layout.specs.Rows.{master_of, owner_of, parent_of, first_child_of, next_cap_of}
use Rattle.layout.specs.Shape.{Forest, nil, node, count, times, SoundIn, TreeOf, Caps, Shape}
use Rattle.layout.proofs.Linking.{apart_in}
use Rattle.layout.proofs.Shaped.{CapShaped, of_tree, shaped}
use Rattle.layout.proofs.Standing.{stands, stands-once, stands-only}
use Rattle.layout.proofs.FreeCaps.{FirstFree, first-free, rest-owner, rest-other, rest-chain}
use Rattle.layout.proofs.Kept.{objects-kept, blocks-kept}
use Rattle.call_grow.specs.Made.{free_cap, new_links}
use Rattle.call_grow.proofs.Making.{MadeLinks, made-links}
use Rattle.call_derive.specs.Runs.{derived_links}
use Rattle.call_derive.proofs.Grafting.{grown, grown-root, grown-count, first-in, Joined, untouched, grown-sound}
use Rattle.call_derive.proofs.Linked.{Relinked, derived-relinked, derived-joined}

-- ---- a living capability k in the tree of its object

module _ (l : List ℕ) (c : Caps l) (k : ℕ) (alive : owner_of l k ≢ 0) (S : CapShaped l (owner_of l k) k) where
  abbrev o : ℕ
  o = owner_of l k

  abbrev f : ℕ
  f = first_child_of l k

  -- the object's tree
  whole : SoundIn l o 0 0 (master_of l o) (c.tree o)
  whole = ((c.trees o S.owner-low S.owner-high).live S.owner-lives).2

  here : 1 ≤ count k (c.tree o)
  here = stands l c k alive

  first-child : (f ≡ 0) ⊎ ((1 ≤ count f (c.tree o)) × (f ≤ 512) × (parent_of l f ≡ k))
  first-child = first-in l o k 0 0 (master_of l o) (c.tree o) whole here

  pub child-high : f ≤ 512
  child-high = ⊎_elim (λ z. omega (arith, z)) (λ t. t.1) first-child

  -- a record that stands in no tree is neither of them
  not_new : (i : ℕ) → owner_of l i ≡ 0 → k ≢ i
  not_new i z e = alive (ap (owner_of l) e ∙ z)

  child-not-new : (i : ℕ) → 1 ≤ i → count i (c.tree o) ≡ 0 → f ≢ i
  child-not-new i low z e =
      ⊎_elim (λ q. omega (arith, q, e, low)) (λ t. apart_in f i (c.tree o) t.0 z e) first-child

  -- the first child stands in no other tree
  child-elsewhere : (p : ℕ) → 1 ≤ p → p ≤ 64 → p ≢ o → count f (c.tree p) ≡ 0
  child-elsewhere p low high ne = ⊎_elim
      (λ z. by-eq (count f (c.tree p)) 0 (λ e. e)
      (λ nz. absurd (omega (arith, z, (of_tree l c f p low high (omega (arith, nz))).low))))
      (λ t. stands-only l c o p S.owner-low S.owner-high low high ne f t.0)
      first-child

  -- ---- where the links m have a new record i, the first free one, in front of its children

  module _ (m : List ℕ) (i : ℕ) (F : FirstFree l c i) (J : Joined l m (owner_of l k) k i (first_child_of l k))
      (same : master_of m ≡ master_of l) where
    abbrev own : Forest
    own = grown k i (c.tree o)

    own-tree : TreeOf m o own
    own-tree =
        let t = (c.trees o S.owner-low S.owner-high).live S.owner-lives in
        let g = grown-root k i (master_of l o) t.0 in
        record {
          live = λ _. (
            g.0,
            ap (grown k i) t.1 ∙ g.1 ∙ ap (λ (r : ℕ → ℕ). node (r o) g.0 nil) (sym same),
            rw same (grown-sound l m o k i f F.low F.high J 0 0 (master_of l o) (c.tree o) refl
                (λ h. ⊎_elim (λ z. absurd (omega (arith, h, z))) (λ u. u.2) first-child)
                (λ e. omega (arith, e, S.low))
                whole
                (F.no-tree o S.owner-low S.owner-high) (stands-once l c o S.owner-low S.owner-high)),
          );
          dead = λ z. absurd (S.owner-lives (ap (λ (r : ℕ → ℕ). r o) (sym same) ∙ z));
        }

    other-tree : (p : ℕ) → 1 ≤ p → p ≤ 64 → p ≢ o → TreeOf m p (c.tree p)
    other-tree p low high ne = record {
      live = λ a.
          let t = (c.trees p low high).live (λ z. a (ap (λ (r : ℕ → ℕ). r p) same ∙ z)) in (
            t.0,
            t.1 ∙ ap (λ (r : ℕ → ℕ). node (r p) t.0 nil) (sym same),
            rw same (untouched l m o k i f F.low F.high J p 0 0 (master_of l p) (c.tree p) t.2
                (F.no-tree p low high) (stands-only l c o p S.owner-low S.owner-high low high ne k here)
                (child-elsewhere p low high ne)),
          );
      dead = λ z. (c.trees p low high).dead (ap (λ (r : ℕ → ℕ). r p) (sym same) ∙ z);
    }

    abbrev trees : ℕ → Forest
    trees = at c.tree o own

    all-trees : (p : ℕ) → 1 ≤ p → p ≤ 64 → TreeOf m p (trees p)
    all-trees p low high = by-eq p o
        (λ e. rw (e, at_here c.tree o own) own-tree)
        (λ ne. rw (at-else c.tree o own p ne) (other-tree p low high ne))

    all_once : (j : ℕ) → 1 ≤ j → j ≤ 512 → sum_over 64 (λ p. count j (trees p)) + times j F.rest ≡ 1
    all_once j low high =
        let one-k : count k (c.tree o) ≡ 1 = omega (arith, here, stands-once l c o S.owner-low S.owner-high k) in
        omega (
          arith,
          sum-but 64 (λ p. count j (c.tree p)) (λ p. count j (trees p)) o S.owner-low S.owner-high
              (λ p ne. ap (count j) (at-else c.tree o own p ne)),
          ap (count j) (at_here c.tree o own),
          grown-count k i j (c.tree o) one-k,
          F.times-is j,
          c.once j low high,
        )

    pub caps-joined : get_or m Layout.FREE_CAPS 0 ≡ next_cap_of l i → Caps m
    caps-joined head = record {
      tree = trees;
      free = F.rest;
      trees = all-trees;
      free-chain = rw head (rest-chain F (next_cap_of m) J.next-kept);
      free-owner = λ j h. J.owner-kept j (rest-other F j h) ∙ rest-owner F j h;
      once = all_once;
    }

-- ---- derive_cap's links

module _ (l : List ℕ) (s : Shape l) (k : ℕ) (x : Cap) (long : length l ≡ Layout.LINKS) (alive : owner_of l k ≢ 0)
    (some : free_cap l ≢ 0) (object : x.object ≡ owner_of l k) (parent : x.parent ≡ k) where
  abbrev i : ℕ
  i = free_cap l

  abbrev next : ℕ
  next = first_child_of l k

  abbrev m : List ℕ
  m = derived_links l i k x next

  S : CapShaped l (owner_of l k) k
  S = (shaped l s).cap k alive

  pub free : FirstFree l s.caps i
  free = first-free l s.caps some

  pub made : MadeLinks l (new_links l i x next) i x next
  made = made-links l i x next long free.low free.high

  pub linked : Relinked (new_links l i x next) m
  linked = derived-relinked l i k x next long free.low free.high S.low S.high (child-high l s.caps k alive S)

  J : Joined l m (owner_of l k) k i next
  J = subst (λ o. Joined l m o k i next) object (derived-joined l i k x next long free.low free.high S.low S.high
      (child-high l s.caps k alive S) (not_new l s.caps k alive S i free.owner-none)
      (child-not-new l s.caps k alive S i free.low (free.no-tree (owner_of l k) S.owner-low S.owner-high)) parent)

  pub derived-shape : Shape m
  derived-shape = record {
    objects = objects-kept l m (linked.master-same ∙ made.master-same) (linked.next-object-same ∙ made.next-object-same)
        (linked.objects-head ∙ made.objects-head) (linked.free-objects-head ∙ made.free-objects-head) s.objects;
    caps = caps-joined l s.caps k alive S m i free J (linked.master-same ∙ made.master-same)
        (linked.free-caps-head ∙ made.free-caps-head);
    blocks = blocks-kept l m (linked.master-same ∙ made.master-same) (linked.size_same ∙ made.size_same)
        (linked.first-block-same ∙ made.first-block-same) (linked.next-block-same ∙ made.next-block-same)
        (linked.free-blocks-head ∙ made.free-blocks-head) s.blocks;
  }
