-- Each block is in one chain, once: so bytes that differ, of one object or of two, have cells that differ.
use Prim.Native.Nat.{ℕ, ◌+◌, ◌*◌, ◌/◌, ◌≤◌, ◌<◌}
use mathlib.Core.Path.{◌≡◌}
use mathlib.Core.Logic.{◌≢◌}
use mathlib.Core.List.{List}
use native.Mathlib.Omega.{arith}
use lib.ListN.{length}
use Rattle.rules.specs.Slots.{at}
use Rattle.rules.specs.Store.{blocks}
use Rattle.rules.proofs.Slots.{at-else, sum-at}
use Rattle.layout.specs.Layout as Layout
use Rattle.layout.specs.Rows.{master_of, size_of, first_block_of, next_block_of}
use Rattle.layout.specs.Shape.{Chain, times, Blocks}
use Rattle.layout.proofs.Field.{field-low, field-high}
use Rattle.layout.proofs.Linking.{chain-low, chain-high}
use Rattle.call_blocks.specs.Walk.{hop}
use Rattle.call_blocks.proofs.Hops.{hop-in, hop-block, hop-apart}
use Rattle.call_transfer.specs.Runs.{cell_of}
use Rattle.call_transfer.proofs.Places.{byte-block}

module _ (l : List ℕ) (B : Blocks l) where
  -- a block is once in a chain, and in one chain alone
  chain-once : (o : ℕ) → 1 ≤ o → o ≤ 64 → (k : ℕ) → 1 ≤ k → k ≤ 512 → times k (B.chain o) ≤ 1
  chain-once o low high k p q =
      omega (arith, B.once k p q, sum-at 64 (λ (m : ℕ). m) (λ o. times k (B.chain o)) o 0 low high)

  chain-alone : (o q : ℕ) → 1 ≤ o → o ≤ 64 → 1 ≤ q → q ≤ 64 → q ≢ o → (k : ℕ) → 1 ≤ k → k ≤ 512
      → 1 ≤ times k (B.chain o) → 1 ≤ times k (B.chain q) → ⊥
  chain-alone o q o1 o2 q1 q2 ne k k1 k2 a b =
      let f : ℕ → ℕ = λ i. times k (B.chain i) in
      omega (
        arith,
        B.once k k1 k2,
        sum-at 64 (λ (m : ℕ). m) f o 0 o1 o2,
        sum-at 64 (λ (m : ℕ). m) (at f o 0) q 0 q1 q2,
        at-else f o 0 q ne,
      )

  -- of a living object
  module _ (o : ℕ) (alive : master_of l o ≢ 0) where
    pub low : 1 ≤ o
    low = field-low 64 Layout.MASTER l o alive

    pub high : o ≤ 64
    high = field-high 64 Layout.MASTER l o alive

    pub chain-is : Chain 512 (next_block_of l) (first_block_of l o) (B.chain o)
    chain-is = ((B.chains o low high).live alive).0

    pub chain-long : length (B.chain o) ≡ blocks (size_of l o)
    chain-long = ((B.chains o low high).live alive).1

    place_in : (p : ℕ) → p < size_of l o → p / 64 < length (B.chain o)
    place_in = byte-block chain-long

    pub cell-high : (p : ℕ) → p < size_of l o → cell_of l (first_block_of l o) p < Layout.BYTES
    unfolding cell_of
    cell-high p h =
        let block = (hop-block (next_block_of l) (first_block_of l o) (B.chain o) chain-is (p / 64) (place_in p h)).1 in
        omega (arith, block)

    pub cells-apart : (p q : ℕ) → p < size_of l o → q < size_of l o
        → cell_of l (first_block_of l o) p ≡ cell_of l (first_block_of l o) q → p ≡ q
    unfolding cell_of
    cells-apart p q a b e =
        let head : ℕ = first_block_of l o in
        let same : hop (next_block_of l) (p / 64) head ≡ hop (next_block_of l) (q / 64) head = omega arith in
        let place : p / 64 ≡ q / 64 =
        hop-apart (next_block_of l) head (B.chain o) chain-is (chain-once o low high) (p / 64) (q / 64)
        (place_in p a) (place_in q b) same in
        omega arith

    -- a block of another object has none of its cells
    pub other_block : (q : ℕ) → master_of l q ≢ 0 → q ≢ o → (k : ℕ) → 1 ≤ times k (B.chain q)
        → (p : ℕ) → p < size_of l o → (i : ℕ) → i < 64
        → Layout.DATA + (k * 64 + i) ≢ cell_of l (first_block_of l o) p
    unfolding cell_of
    other_block q lives ne k h p a i c e =
        let head : ℕ = first_block_of l o in
        let same : hop (next_block_of l) (p / 64) head ≡ k = omega arith in
        let mine : 1 ≤ times k (B.chain o) =
        rw same at (hop-in (next_block_of l) head (B.chain o) chain-is (p / 64) (place_in p a)) in
        chain-alone o q low high (field-low 64 Layout.MASTER l q lives) (field-high 64 Layout.MASTER l q lives) ne k
        (chain-low 512 (next_block_of l) head (B.chain o) k chain-is mine)
        (chain-high 512 (next_block_of l) head (B.chain o) k chain-is mine) mine h
