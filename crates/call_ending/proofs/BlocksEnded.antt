-- The chains of blocks where an object ends: its blocks are in front of the free ones.
use Prim.Native.Nat.{ℕ, zero, suc, ◌+◌, ◌≤◌}
use mathlib.Core.Path.{◌≡◌, refl, sym, ap, ◌∙◌, subst}
use mathlib.Core.Logic.{◌≢◌}
use mathlib.Core.List.{List, [], ◌∷◌, ◌++◌}
use native.Mathlib.Omega.{arith}
use lib.ListN.{length}
use Rattle.rules.specs.Slots.{sum_over, at}
use Rattle.rules.proofs.Tests.{by-eq}
use Rattle.rules.proofs.Slots.{at_here, at-else, sum-but}
use Rattle.layout.specs.Shape.{Chain, times, HasBlocks, BlockChains}
use Rattle.layout.proofs.Counts.{one_same}
use Rattle.layout.proofs.Linking.{sum-two, sum_one, times-append, chain-low, chain-high, chain-frame}
use Rattle.layout.proofs.Joining.{chain-join}
use Rattle.call_blocks.specs.Walk.{hop}

-- the last of a chain of i + 1
pub last-split : (n : ℕ) (next : ℕ → ℕ) (head : ℕ) (xs : List ℕ) (i : ℕ) → Chain n next head xs → length xs ≡ suc i
    → (ys : List ℕ) × (xs ≡ ys ++ hop next i head ∷ [])
unfolding Chain hop
last-split n next head [] i c e = absurd (omega arith)
last-split n next head (j ∷ []) zero c e = ([], ap (λ x. x ∷ []) (sym c.0))
last-split n next head (j ∷ k ∷ xs) zero c e = absurd (omega arith)
last-split n next head (j ∷ xs) (suc i) c e =
    let t = last-split n next (next j) xs i c.3 (omega arith) in
    (j ∷ t.0, rw c.0 (ap (λ x. j ∷ x) t.1))

module _ (m size first next : ℕ → ℕ) (head : ℕ) (b : BlockChains m size first next head)
    (o : ℕ) (low : 1 ≤ o) (high : o ≤ 64) (alive : m o ≢ 0)
    (m' next' : ℕ → ℕ) (gone : m' o ≡ 0) (others : (i : ℕ) → i ≢ o → m' i ≡ m i) where
  abbrev new : ℕ → List ℕ
  new = at b.chain o []

  -- a block of o's is in no other chain
  pub not_there : (k : ℕ) → 1 ≤ times k (b.chain o) → (i : ℕ) → 1 ≤ i → i ≤ 64 → i ≢ o → times k (b.chain i) ≡ 0
  not_there k n i a c ne =
      let mine = ((b.chains o low high).live alive).0 in
      omega (
        arith,
        n,
        b.once k (chain-low 512 next (first o) (b.chain o) k mine n)
            (chain-high 512 next (first o) (b.chain o) k mine n),
        sum-two 64 (λ x. times k (b.chain x)) i o a c low high ne,
      )

  -- the other objects' chains, where their links are as they were
  module _ (kept : (i : ℕ) → 1 ≤ i → i ≤ 64 → i ≢ o → (k : ℕ) → 1 ≤ times k (b.chain i) → next' k ≡ next k) where
    theirs : (i : ℕ) → 1 ≤ i → i ≤ 64 → HasBlocks m' size first next' i (new i)
    theirs i a c = by-eq i o
        (λ e. rw (e, at_here b.chain o []) (record { live = λ h. absurd (h gone); dead = λ _. refl }))
        (λ ne. rw (at-else b.chain o [] i ne) (record {
          live = λ h.
              let t = (b.chains i a c).live (λ z. h (others i ne ∙ z)) in
              (chain-frame 512 next next' (first i) (b.chain i) t.0 (kept i a c ne), t.1);
          dead = λ h. (b.chains i a c).dead (sym (others i ne) ∙ h);
        }))

    total : (k : ℕ) → sum_over 64 (λ i. times k (new i)) + times k (b.chain o) ≡ sum_over 64 (λ i. times k (b.chain i))
    unfolding times
    total k = omega (
      arith,
      sum-but 64 (λ i. times k (b.chain i)) (λ i. times k (new i)) o low high
          (λ i ne. ap (times k) (at-else b.chain o [] i ne)),
      ap (times k) (at_here b.chain o []),
    )

  -- a block of a chain is one of 1 to 512
  block-low : (i : ℕ) → 1 ≤ i → i ≤ 64 → (k : ℕ) → 1 ≤ times k (b.chain i) → 1 ≤ k
  unfolding times
  block-low i a c k n = by-eq (m i) 0
      (λ z. absurd (omega (arith, n, ap (times k) ((b.chains i a c).dead z))))
      (λ nz. chain-low 512 next (first i) (b.chain i) k ((b.chains i a c).live nz).0 n)

  -- an object that has none
  module _ (none : b.chain o ≡ []) (kept : (k : ℕ) → 1 ≤ k → next' k ≡ next k) where
    as-they-were : (i : ℕ) → 1 ≤ i → i ≤ 64 → i ≢ o → (k : ℕ) → 1 ≤ times k (b.chain i) → next' k ≡ next k
    as-they-were i a c ne k n = kept k (block-low i a c k n)

    pub none-given : BlockChains m' size first next' head
    unfolding times
    none-given = record {
      chain = new;
      free = b.free;
      chains = theirs as-they-were;
      free-chain = chain-frame 512 next next' head b.free b.free-chain
          (λ k n. kept k (chain-low 512 next head b.free k b.free-chain n));
      once = λ k p q. omega (arith, total as-they-were k, ap (times k) none, b.once k p q);
    }

  -- one whose last block is j
  module _ (xs : List ℕ) (j : ℕ) (is : b.chain o ≡ xs ++ j ∷ []) (linked : next' j ≡ head)
      (kept : (k : ℕ) → 1 ≤ k → k ≢ j → next' k ≡ next k) where
    mine : Chain 512 next (first o) (xs ++ j ∷ [])
    mine = subst (Chain 512 next (first o)) is ((b.chains o low high).live alive).0

    last-in : 1 ≤ times j (b.chain o)
    unfolding times
    last-in = rw is (omega (arith, times-append j xs (j ∷ []), one_same j))

    but-the-last : (i : ℕ) → 1 ≤ i → i ≤ 64 → i ≢ o → (k : ℕ) → 1 ≤ times k (b.chain i) → next' k ≡ next k
    but-the-last i a c ne k n = kept k (block-low i a c k n)
        (λ e. omega (arith, n, not_there j last-in i a c ne, ap (λ x. times x (b.chain i)) e))

    all-free : (k : ℕ) → times k (xs ++ j ∷ b.free) ≡ times k (b.chain o) + times k b.free
    unfolding times
    all-free k = omega (arith, times-append k xs (j ∷ b.free), ap (times k) is, times-append k xs (j ∷ []))

    single : (k : ℕ) → times k (xs ++ j ∷ b.free) ≤ 1
    single k = by-eq (times k (b.chain o)) 0
        (λ z. by-eq (times k b.free) 0 (λ y. omega (arith, all-free k)) (λ ny. omega (
          arith,
          all-free k,
          z,
          b.once k (chain-low 512 next head b.free k b.free-chain (omega arith))
              (chain-high 512 next head b.free k b.free-chain (omega arith)),
        )))
        (λ nz.
        let c = ((b.chains o low high).live alive).0 in
        omega (
          arith,
          all-free k,
          sum_one 64 (λ i. times k (b.chain i)) o low high,
          b.once k (chain-low 512 next (first o) (b.chain o) k c (omega arith))
              (chain-high 512 next (first o) (b.chain o) k c (omega arith)),
        ))

    pub some-given : BlockChains m' size first next' (first o)
    some-given = record {
      chain = new;
      free = xs ++ j ∷ b.free;
      chains = theirs but-the-last;
      free-chain = chain-join 512 next next' j kept (first o) xs b.free single mine (rw linked b.free-chain);
      once = λ k p q. omega (arith, all-free k, total but-the-last k, b.once k p q);
    }
