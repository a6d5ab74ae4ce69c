-- The first free capability is the tree of a new object, alone: the shape of the trees.
use Prim.Native.Nat.{ℕ, ◌+◌, ◌≤◌}
use mathlib.Core.Path.{◌≡◌, sym, ap, ◌∙◌}
use mathlib.Core.Logic.{◌≢◌}
use mathlib.Core.List.{List}
use native.Mathlib.Omega.{arith}
use Rattle.rules.specs.Slots.{at, sum_over}
use Rattle.rules.proofs.Tests.{by-eq}
use Rattle.rules.proofs.Slots.{at_here, at-else, sum-but}
use Rattle.layout.specs.Rows.{master_of, owner_of, parent_of, first_child_of, next_cap_of, prev_cap_of}
use Rattle.layout.specs.Shape.{times, Forest, nil, node, count, Sound, CapTrees, TreeOf, Caps}
use Rattle.layout.proofs.Linking.{SameLinks, sound-frame}
use Rattle.layout.proofs.FreeCaps.{FirstFree, rest-other, rest-owner, rest-chain}

-- the rows of l' are those of l, but the record in slot i, which is a master of object o, and o's master
pub record Roots (l l' : List ℕ) (o i : ℕ) : Type 0 where
  pub master-is : master_of l' ≡ at (master_of l) o i
  pub owner_here : owner_of l' i ≡ o
  pub parent-here : parent_of l' i ≡ 0
  pub first-here : first_child_of l' i ≡ 0
  pub next_here : next_cap_of l' i ≡ 0
  pub prev-here : prev_cap_of l' i ≡ 0
  pub else : (k : ℕ) → k ≢ i → SameLinks (owner_of l) (parent_of l) (first_child_of l) (next_cap_of l) (prev_cap_of l)
      (owner_of l') (parent_of l') (first_child_of l') (next_cap_of l') (prev_cap_of l') k

module _ (l l' : List ℕ) (o i : ℕ) (low : 1 ≤ o) (high : o ≤ 64) (s : Caps l) (F : FirstFree l s i)
    (dead : master_of l o ≡ 0) (R : Roots l l' o i) where
  abbrev tree : ℕ → Forest
  tree = at s.tree o (node i nil nil)

  master-o : master_of l' o ≡ i
  master-o = (λ k. R.master-is k o) ∙ at_here (master_of l) o i

  master-else : (q : ℕ) → q ≢ o → master_of l' q ≡ master_of l q
  master-else q ne = (λ k. R.master-is k q) ∙ at-else (master_of l) o i q ne

  tree-new : TreeOf l' o (node i nil nil)
  unfolding Sound
  tree-new = record {
    live = λ _. (
      nil,
      ap (λ j. node j nil nil) (sym master-o),
      (
        master-o,
        record {
          low = F.low;
          high = F.high;
          owner-is = R.owner_here;
          parent_is = R.parent-here;
          prev-is = R.prev-here;
        },
        R.first-here,
        R.next_here,
      ),
    );
    dead = λ z. absurd (omega (arith, z, master-o, F.low));
  }

  tree-else : (q : ℕ) → 1 ≤ q → q ≤ 64 → q ≢ o → TreeOf l' q (s.tree q)
  tree-else q p r ne =
      let e = master-else q ne in
      let same : (k : ℕ) → 1 ≤ count k (s.tree q) → k ≢ i =
      λ k c x. omega (arith, c, F.no-tree q p r, ap (λ j. count j (s.tree q)) x) in
      record {
        live = λ a.
            let t = (s.trees q p r).live (λ z. a (e ∙ z)) in (
              t.0,
              t.1 ∙ ap (λ j. node j t.0 nil) (sym e),
              rw e (sound-frame (owner_of l) (parent_of l) (first_child_of l) (next_cap_of l) (prev_cap_of l)
                  (owner_of l') (parent_of l') (first_child_of l') (next_cap_of l') (prev_cap_of l') q 0 0 (master_of l q)
                  (s.tree q) t.2 (λ k c. R.else k (same k c))),
            );
        dead = λ z. (s.trees q p r).dead (sym e ∙ z);
      }

  each : (q : ℕ) → 1 ≤ q → q ≤ 64 → TreeOf l' q (tree q)
  each q p r = by-eq q o
      (λ e. rw (e, at_here s.tree o (node i nil nil)) tree-new)
      (λ ne. rw (at-else s.tree o (node i nil nil) q ne) (tree-else q p r ne))

  once : (k : ℕ) → 1 ≤ k → k ≤ 512 → sum_over 64 (λ q. count k (tree q)) + times k F.rest ≡ 1
  unfolding count
  once k p r =
      omega (
        arith,
        sum-but 64 (λ q. count k (s.tree q)) (λ q. count k (tree q)) o low high
            (λ q ne. ap (count k) (at-else s.tree o (node i nil nil) q ne)),
        ap (count k) ((s.trees o low high).dead dead),
        ap (count k) (at_here s.tree o (node i nil nil)),
        s.once k p r,
        F.times-is k,
      )

  pub cap-rooted : CapTrees (master_of l') (owner_of l') (parent_of l') (first_child_of l') (next_cap_of l') (prev_cap_of l')
      (next_cap_of l i)
  cap-rooted = record {
    tree = tree;
    free = F.rest;
    trees = each;
    free-chain = rest-chain F (next_cap_of l') (λ k ne. (R.else k ne).next-same);
    free-owner = λ k h. (R.else k (rest-other F k h)).owner-same ∙ rest-owner F k h;
    once = once;
  }
