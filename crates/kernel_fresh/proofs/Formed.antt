-- The fresh slices are well formed.
use Prim.Native.Nat.{ℕ, ◌+◌, ◌-◌, ◌≤◌, ◌<◌}
use mathlib.Core.Path.{◌≡◌, refl, ◌∙◌}
use mathlib.Core.Logic.{◌≢◌}
use mathlib.Core.List.{[], ◌∷◌}
use native.Mathlib.Omega.{arith}
use lib.Dec.{eqb, lit<, lit≤}
use borrow.Author.Tests.{eq-eqb, ne_eqb}
use lib.ListN.{length-set}
use Rattle.rules.specs.Limit as Limit
use Rattle.rules.specs.Slots.{at, one, sum_over}
use Rattle.rules.specs.Store.{Password, blocks}
use Rattle.rules.specs.Demand.{FreshWords}
use Rattle.rules.specs.Theorems.{FreshValid}
use Rattle.layout.specs.Shape.{Chain, times, Forest, nil, node, count, Sound, ObjectChains, HasTree, CapTrees}
use Rattle.layout.specs.Shape.{BlockChains, Shape}
use Rattle.layout.specs.WellFormed.{Sized, Cells, WellFormed}
use Rattle.kernel_fresh.specs.Slices.{fresh_bytes, fresh_links, free_links, first_links, fresh_words}
use Rattle.rules.proofs.Tests.{by-eq}
use Rattle.rules.proofs.Slots.{at_here, at-else, at-by, sum-zero}
use Rattle.kernel_fresh.proofs.Slots.{sum-only}
use Rattle.kernel_fresh.proofs.Cells.{length-zeros}
use Rattle.kernel_fresh.proofs.Chains.{length-free, FreeTo}
use Rattle.kernel_fresh.proofs.Rows.{none, only, master, owner}
use Rattle.kernel_fresh.proofs.Rows.{flag-row, suspended-row, waiting-row, terminated-row, count-row}
use Rattle.kernel_fresh.proofs.Rows.{master-row, size-row, first-block-row}
use Rattle.kernel_fresh.proofs.Rows.{owner-row, parent_row, first-child-row, prev-cap-row}
use Rattle.kernel_fresh.proofs.Rows.{objects-head, free-objects-head, free-caps-head, free-blocks-head}
use Rattle.kernel_fresh.proofs.Rows.{free-objects, free-caps, free-blocks}
use Rattle.kernel_fresh.proofs.Meaning.{fresh-means}

-- ---- lengths and cells

sized : (supply : ℕ) (p : Password) → Sized fresh_bytes fresh_links (fresh_words supply p)
unfolding fresh_bytes fresh_links free_links first_links fresh_words
sized supply p = record {
  bytes = simp (length-set, length-zeros);
  links = simp (length-set, length-free, length-zeros);
  words = simp (length-set, length-zeros);
}

cells : Cells fresh_bytes fresh_links
cells = record {
  flag = λ o h. rw flag-row (at-by (λ i x. x ≤ 1) none Limit.objects 1 (lit≤ tt) (λ i n. lit≤ tt) o);
  suspended = λ o h. rw suspended-row (lit≤ tt);
  waiting = λ o h. rw waiting-row (lit≤ tt);
  terminated = λ o h. rw terminated-row (lit≤ tt);
  count = λ o h. rw count-row (lit≤ tt);
  length = λ o m h b. let no-message : m < 0 = rw count-row at b in absurd (omega arith);
}

-- ---- the last record in use, and those before it free

module _ {n last : ℕ} (e : last + 1 ≡ n) {next : ℕ → ℕ} (F : FreeTo n last next) where
  once : (k : ℕ) → 1 ≤ k → k ≤ n → one (eqb k n) + times k F.free ≡ 1
  unfolding one
  once k low high = by-eq k n
      (λ q. rw (eq-eqb k n q, F.none k (omega arith), one))
      (λ m. rw (ne_eqb k n m, F.has k low (omega arith), one))

  not_last : (v k : ℕ) → 1 ≤ times k F.free → only n v k ≡ 0
  not_last v k h = by-eq k n
      (λ q. absurd (omega (arith, F.none k (omega arith))))
      (λ m. at-else none n v k m)

is_last : (n v k : ℕ) → 1 ≤ one (eqb k n) → only n v k ≡ v
unfolding one
is_last n v k h = by-eq k n
    (λ q. rw q (at_here none n v))
    (λ m. let none-there : 1 ≤ 0 = rw (ne_eqb k n m, one) at h in absurd (omega arith))

objects-of : {next : ℕ → ℕ} → FreeTo Limit.objects (Limit.objects - 1) next
    → ObjectChains master next Limit.objects (Limit.objects - 1)
unfolding Chain times one
objects-of {next} F = record {
  live = Limit.objects ∷ [];
  free = F.free;
  live-chain = (refl, lit≤ tt, lit≤ tt, F.after Limit.objects (lit< tt));
  free-chain = F.free-chain;
  once = λ o a b. omega (arith, once refl F o a b);
  alive = λ o h z. omega (arith, is_last Limit.objects Limit.caps o (omega arith));
  dead = not_last refl F Limit.caps;
}

-- the last capability alone is the tree of the last object
first-tree : Forest
first-tree = node Limit.caps nil nil

trees : ℕ → Forest
trees = at (λ o. nil) Limit.objects first-tree

module _ {next : ℕ → ℕ} (F : FreeTo Limit.caps (Limit.caps - 1) next) where
  has_first : HasTree master owner none none next none Limit.objects first-tree
  unfolding Sound at first-tree
  has_first = record {
    live = λ h. (
      nil,
      refl,
      (
        refl,
        record { low = lit≤ tt; high = lit≤ tt; owner-is = refl; parent_is = refl; prev-is = refl },
        refl,
        F.after Limit.caps (lit< tt),
      ),
    );
    dead = λ z. absurd (omega arith);
  }

  no-tree : (o : ℕ) → o ≢ Limit.objects → HasTree master owner none none next none o nil
  no-tree o n = record { live = λ h. absurd (h (at-else none Limit.objects Limit.caps o n)); dead = λ z. refl }

  in-trees : (k : ℕ) → sum_over Limit.objects (λ o. count k (trees o)) ≡ one (eqb k Limit.caps)
  unfolding trees first-tree count at
  in-trees k =
      sum-only Limit.objects Limit.objects (λ o. count k (trees o)) (lit≤ tt) (lit≤ tt)
      (λ o n. rw (at-else (λ j. nil) Limit.objects first-tree o n))
      ∙ omega arith

  caps-of : CapTrees master owner none none next none (Limit.caps - 1)
  unfolding trees
  caps-of = record {
    tree = trees;
    free = F.free;
    trees = λ o a b. at-by (HasTree master owner none none next none) (λ j. nil) Limit.objects first-tree
        has_first no-tree o;
    free-chain = F.free-chain;
    free-owner = not_last refl F Limit.objects;
    once = λ k a b. omega (arith, once refl F k a b, in-trees k);
  }

-- no block is in use
blocks-of : {next : ℕ → ℕ} → FreeTo Limit.blocks Limit.blocks next → BlockChains master none none next Limit.blocks
unfolding Chain times blocks
blocks-of {next} F = record {
  chain = λ o. [];
  free = F.free;
  chains = λ o a b. record { live = λ h. (refl, refl); dead = λ z. refl };
  free-chain = F.free-chain;
  once = λ k a b. omega (arith, F.has k a b, sum-zero Limit.objects none (λ j p q. refl));
}

shape : Shape fresh_links
shape = record {
  objects = rw (master-row, objects-head, free-objects-head) (objects-of free-objects);
  caps = rw (master-row, owner-row, parent_row, first-child-row, prev-cap-row, free-caps-head) (caps-of free-caps);
  blocks = rw (master-row, size-row, first-block-row, free-blocks-head) (blocks-of free-blocks);
}

-- ---- the whole; that the rules' fresh store is valid is theirs to show
pub fresh-formed : FreshValid → (supply : ℕ) (p : Password) → FreshWords supply p
    → WellFormed fresh_bytes fresh_links (fresh_words supply p)
unfolding FreshValid
fresh-formed valid supply p words = record {
  sized = sized supply p;
  cells = cells;
  shape = shape;
  valid = rw fresh-means (valid supply p words);
}
