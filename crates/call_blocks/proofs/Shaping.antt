-- The shape of the blocks after `take`, once the object in slot o lives and has its size.
use Prim.Native.Nat.{ℕ, ◌+◌, ◌≤◌}
use mathlib.Core.Path.{◌≡◌, sym, ap, ◌∙◌}
use mathlib.Core.Logic.{◌≢◌}
use mathlib.Core.List.{List}
use native.Mathlib.Omega.{arith}
use lib.ListN.{length}
use Rattle.rules.specs.Slots.{at, sum_over}
use Rattle.rules.specs.Store.{blocks}
use Rattle.rules.proofs.Tests.{by-eq}
use Rattle.rules.proofs.Slots.{at_here, at-else, sum-but}
use Rattle.layout.specs.Layout as Layout
use Rattle.layout.specs.Rows.{master_of, size_of, first_block_of, next_block_of}
use Rattle.layout.specs.Shape.{times, HasBlocks, BlockChains, Blocks}
use Rattle.layout.proofs.Linking.{sum_one, times-append, chain-low, chain-high, chain-frame}
use Rattle.call_blocks.specs.Taking.{free_head, taken_links}
use Rattle.call_blocks.proofs.Splitting.{Split}
use Rattle.call_blocks.proofs.Taken.{taken-first, taken-split, last_of}

-- ---- a block of an object's chain

module _ (l : List ℕ) (B : Blocks l) (q : ℕ) (low : 1 ≤ q) (high : q ≤ 64) (k : ℕ) (h : 1 ≤ times k (B.chain q)) where
  owner-lives : master_of l q ≢ 0
  unfolding times
  owner-lives z = omega (arith, h, ap (times k) ((B.chains q low high).dead z))

  pub block-low : 1 ≤ k
  block-low = chain-low 512 (next_block_of l) (first_block_of l q) (B.chain q) k
      ((B.chains q low high).live owner-lives).0 h

  pub block-high : k ≤ 512
  block-high = chain-high 512 (next_block_of l) (first_block_of l q) (B.chain q) k
      ((B.chains q low high).live owner-lives).0 h

  block-used : times k B.free ≡ 0
  block-used =
      omega (arith, B.once k block-low block-high, h, sum_one 64 (λ i. times k (B.chain i)) q low high)

module _ (l : List ℕ) (long : length l ≡ Layout.LINKS) (o : ℕ) (low : 1 ≤ o) (high : o ≤ 64) (B : Blocks l)
    (dead : master_of l o ≡ 0) (n : ℕ) (h : n ≤ length B.free) where
  abbrev l' : List ℕ
  l' = taken_links l o n

  abbrev S : Split (next_block_of l) (next_block_of l') (free_head l) (first_block_of l' o) (free_head l') n B.free
  S = taken-split l long o low high B n h

  -- is none of those taken
  pub not_taken : (q : ℕ) → 1 ≤ q → q ≤ 64 → (k : ℕ) → 1 ≤ times k (B.chain q) → times k S.front ≡ 0
  not_taken q p r k w =
      omega (arith, block-used l B q p r k w, ap (times k) S.is, times-append k S.front S.back)

  module _ (i z : ℕ) (some : i ≢ 0) (needs : n ≡ blocks z) where
    abbrev Has : ℕ → List ℕ → Type 0
    Has q xs = HasBlocks (at (master_of l) o i) (at (size_of l) o z) (first_block_of l') (next_block_of l') q xs

    has_new : Has o S.front
    has_new = record {
      live = λ _. (S.front-chain, S.size ∙ needs ∙ ap blocks (sym (at_here (size_of l) o z)));
      dead = λ y. absurd (some (sym (at_here (master_of l) o i) ∙ y));
    }

    has_other : (q : ℕ) → 1 ≤ q → q ≤ 64 → q ≢ o → Has q (B.chain q)
    has_other q p r ne = record {
      live = λ a.
          let c = (B.chains q p r).live (λ y. a (at-else (master_of l) o i q ne ∙ y)) in (
            rw (taken-first l long o low high n (last_of l long o low high B n h) q ne) (chain-frame 512 (next_block_of l)
                (next_block_of l') (first_block_of l q) (B.chain q) c.0 (λ k w. S.other k (not_taken q p r k w))),
            c.1 ∙ ap blocks (sym (at-else (size_of l) o z q ne)),
          );
      dead = λ y. (B.chains q p r).dead (sym (at-else (master_of l) o i q ne) ∙ y);
    }

    each : (q : ℕ) → 1 ≤ q → q ≤ 64 → Has q (at B.chain o S.front q)
    each q p r = by-eq q o
        (λ e. rw (e, at_here B.chain o S.front) has_new)
        (λ ne. rw (at-else B.chain o S.front q ne) (has_other q p r ne))

    once : (k : ℕ) → 1 ≤ k → k ≤ 512
        → sum_over 64 (λ q. times k (at B.chain o S.front q)) + times k S.back ≡ 1
    unfolding times
    once k p r =
        omega (
          arith,
          sum-but 64 (λ q. times k (B.chain q)) (λ q. times k (at B.chain o S.front q)) o low high
              (λ q ne. ap (times k) (at-else B.chain o S.front q ne)),
          ap (times k) ((B.chains o low high).dead dead),
          ap (times k) (at_here B.chain o S.front),
          B.once k p r,
          ap (times k) S.is,
          times-append k S.front S.back,
        )

    pub taken-blocks : BlockChains (at (master_of l) o i) (at (size_of l) o z) (first_block_of l') (next_block_of l')
        (free_head l')
    taken-blocks = record {
      chain = at B.chain o S.front;
      free = S.back;
      chains = each;
      free-chain = S.back-chain;
      once = once;
    }
