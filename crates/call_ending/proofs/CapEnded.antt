-- The trees of capabilities where a master ends that has no child: its object has none, and it is in front of the free
-- ones.
use Prim.Native.Nat.{ℕ, ◌+◌, ◌≤◌}
use mathlib.Core.Path.{◌≡◌, refl, sym, ap, ◌∙◌, subst}
use mathlib.Core.Logic.{◌≢◌}
use mathlib.Core.List.{◌∷◌}
use native.Mathlib.Omega.{arith}
use lib.Dec.{eqb}
use Rattle.rules.specs.Slots.{one, sum_over, at}
use Rattle.rules.proofs.Tests.{by-eq}
use Rattle.rules.proofs.Slots.{at_here, at-else, sum-but}
use Rattle.layout.specs.Shape.{Chain, times, Forest, nil, node, count, Sound, HasTree, CapTrees}
use Rattle.layout.proofs.Counts.{one_same, one-other}
use Rattle.layout.proofs.Linking.{sum-two, sum_one, chain-frame, SameLinks, sound-frame}

-- a chain that ends at once is empty
none_below : (owner above first next back : ℕ → ℕ) (o p q h : ℕ) (F : Forest)
    → Sound owner above first next back o p q h F → h ≡ 0 → F ≡ nil
unfolding Sound
none_below owner above first next back o p q h nil s z = refl
none_below owner above first next back o p q h (node j K R) s z = absurd (omega (arith, s.0, s.1.low))

module _ (m owner above first next back : ℕ → ℕ) (head : ℕ) (s : CapTrees m owner above first next back head)
    (o : ℕ) (low : 1 ≤ o) (high : o ≤ 64) (alive : m o ≢ 0) (leaf : first (m o) ≡ 0)
    (m' owner' next' : ℕ → ℕ) (gone : m' o ≡ 0) (others : (i : ℕ) → i ≢ o → m' i ≡ m i)
    (owned : owner' (m o) ≡ 0) (owners : (k : ℕ) → k ≢ m o → owner' k ≡ owner k)
    (linked : next' (m o) ≡ head) (kept : (k : ℕ) → k ≢ m o → next' k ≡ next k) where
  abbrev t : HasTree m owner above first next back o (s.tree o)
  t = s.trees o low high

  abbrev children : Forest
  children = (t.live alive).0

  whole : Sound owner above first next back o 0 0 (m o) (node (m o) children nil)
  whole = rw (t.live alive).1 at (t.live alive).2

  -- the master is all of its tree
  alone : s.tree o ≡ node (m o) nil nil
  unfolding Sound
  alone = (t.live alive).1
      ∙ ap (λ F. node (m o) F nil) (none_below owner above first next back o (m o) 0 (first (m o)) children
      whole.2 leaf)

  pub master-low : 1 ≤ m o
  unfolding Sound
  master-low = whole.1.low

  pub master-high : m o ≤ 512
  unfolding Sound
  master-high = whole.1.high

  counted : (k : ℕ) → count k (s.tree o) ≡ one (eqb k (m o))
  unfolding count
  counted k = ap (count k) alone ∙ (omega arith)

  not_free : times (m o) s.free ≡ 0
  not_free = omega (
    arith,
    s.once (m o) master-low master-high,
    sum_one 64 (λ i. count (m o) (s.tree i)) o low high,
    counted (m o),
    one_same (m o),
  )

  -- no other tree has it
  not_there : (i : ℕ) → 1 ≤ i → i ≤ 64 → i ≢ o → count (m o) (s.tree i) ≡ 0
  not_there i a b ne = omega (
    arith,
    s.once (m o) master-low master-high,
    sum-two 64 (λ i. count (m o) (s.tree i)) i o a b low high ne,
    counted (m o),
    one_same (m o),
  )

  abbrev new : ℕ → Forest
  new = at s.tree o nil

  same : (k : ℕ) → k ≢ m o → SameLinks owner above first next back owner' above first next' back k
  same k ne = record {
    owner-same = owners k ne;
    above_same = refl;
    first-same = refl;
    next-same = kept k ne;
    back-same = refl;
  }

  theirs : (i : ℕ) → 1 ≤ i → i ≤ 64 → i ≢ o → HasTree m' owner' above first next' back i (s.tree i)
  theirs i a b ne = record {
    live = λ h.
        let v = (s.trees i a b).live (λ z. h (others i ne ∙ z)) in
        subst (λ x. (children : Forest) × (s.tree i ≡ node x children nil)
        × Sound owner' above first next' back i 0 0 x (s.tree i)) (sym (others i ne)) (
          v.0,
          v.1,
          sound-frame owner above first next back owner' above first next' back i 0 0 (m i) (s.tree i)
              v.2 (λ k c. same k (λ e. omega (arith, not_there i a b ne, ap (λ x. count x (s.tree i)) e))),
        );
    dead = λ h. (s.trees i a b).dead (sym (others i ne) ∙ h);
  }

  all : (i : ℕ) → 1 ≤ i → i ≤ 64 → HasTree m' owner' above first next' back i (new i)
  all i a b = by-eq i o
      (λ e. rw (e, at_here s.tree o nil) (record { live = λ h. absurd (h gone); dead = λ _. refl }))
      (λ ne. rw (at-else s.tree o nil i ne) (theirs i a b ne))

  total : (k : ℕ) → sum_over 64 (λ i. count k (new i)) + one (eqb k (m o)) ≡ sum_over 64 (λ i. count k (s.tree i))
  unfolding count
  total k = omega (
    arith,
    sum-but 64 (λ i. count k (s.tree i)) (λ i. count k (new i)) o low high
        (λ i ne. ap (count k) (at-else s.tree o nil i ne)),
    ap (count k) (at_here s.tree o nil),
    counted k,
  )

  pub cap-ended : CapTrees m' owner' above first next' back (m o)
  unfolding Chain times
  cap-ended = record {
    tree = new;
    free = m o ∷ s.free;
    trees = all;
    free-chain = (
      refl,
      master-low,
      master-high,
      rw linked (chain-frame 512 next next' head s.free s.free-chain
          (λ k n. kept k (λ e. omega (arith, not_free, ap (λ x. times x s.free) e)))),
    );
    free-owner = λ k n. by-eq k (m o) (λ e. ap owner' e ∙ owned)
        (λ ne. owners k ne ∙ s.free-owner k (omega (arith, one-other k (m o) ne)));
    once = λ k p q. omega (arith, total k, s.once k p q);
  }
