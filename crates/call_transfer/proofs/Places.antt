-- Byte p of an object stands in the block that comes p / 64 blocks after the first, at p % 64.
use Prim.Native.Nat.{ℕ, zero, suc, ◌+◌, ◌*◌, ◌-◌, ◌/◌, ◌%◌, ◌≤◌, ◌<◌}
use mathlib.Core.Path.{◌≡◌, sym, ap, ◌∙◌}
use mathlib.Core.List.{List, [], ◌∷◌}
use native.Mathlib.Omega.{arith}
use native.Mathlib.Decide.{dec_le}
use lib.ListN.{get_or, take, drop, length, length-take, length-drop, get_or-append}
use lib.Seq.{get_or-take, get_or-drop, get_or-append-add}
use Rattle.rules.specs.Store.{blocks}
use Rattle.layout.specs.Layout as Layout
use Rattle.layout.specs.Rows.{size_of, first_block_of, next_block_of, data_in}
use Rattle.layout.specs.View.{gather}
use Rattle.layout.specs.Shape.{Chain}
use Rattle.layout.proofs.Field.{region-length, region-at}
use Rattle.layout.proofs.Lengths.{bytes-length}
use Rattle.call_blocks.specs.Walk.{hop}
use Rattle.call_blocks.proofs.Hops.{hop-block}
use Rattle.call_transfer.specs.Runs.{cell_of, bytes_in, part}

-- the block of a byte is one of those that the size needs
pub byte-block : {n size : ℕ} → n ≡ blocks size → (p : ℕ) → p < size → p / 64 < n
unfolding blocks
byte-block e p h = omega arith

module _ (next : ℕ → ℕ) (store : List ℕ) (long : length store ≡ 32832) where
  block-length : (k : ℕ) → k ≤ 512 → length (take 64 (drop (k * 64) store)) ≡ 64
  block-length k h = omega (arith, length-take 64 (drop (k * 64) store), length-drop (k * 64) store)

  -- a byte of the first block, and one of the later blocks
  gather-first : (n k i : ℕ) → k ≤ 512 → i < 64
      → get_or (gather (suc n) next store k) i 0 ≡ get_or store (hop next (i / 64) k * 64 + i % 64) 0
  unfolding gather hop
  gather-first n k i h p =
      let q : i / 64 ≡ 0 = omega arith in
      let r : i % 64 ≡ i = omega arith in
      rw (q, r, hop) (get_or-append (take 64 (drop (k * 64) store)) (gather n next store (next k)) 0 i
      (omega (arith, block-length k h))
      ∙ get_or-take 64 (drop (k * 64) store) i 0 p ∙ get_or-drop (k * 64) store i 0)

  gather-later : (n k m : ℕ) → k ≤ 512
      → get_or (gather n next store (next k)) m 0 ≡ get_or store (hop next (m / 64) (next k) * 64 + m % 64) 0
      → get_or (gather (suc n) next store k) (64 + m) 0
      ≡ get_or store (hop next ((64 + m) / 64) k * 64 + (64 + m) % 64) 0
  unfolding gather hop
  gather-later n k m h ih =
      let q : (64 + m) / 64 ≡ suc (m / 64) = omega arith in
      let r : (64 + m) % 64 ≡ m % 64 = omega arith in
      rw (q, r, hop)
      (ap (λ x. get_or (gather (suc n) next store k) (x + m) 0) (sym (block-length k h))
      ∙ get_or-append-add (take 64 (drop (k * 64) store)) (gather n next store (next k)) m 0 ∙ ih)

  gather-at : (n k : ℕ) (xs : List ℕ) → Chain 512 next k xs → length xs ≡ n → (i : ℕ) → i < n * 64
      → get_or (gather n next store k) i 0 ≡ get_or store (hop next (i / 64) k * 64 + i % 64) 0
  unfolding Chain
  gather-at zero k xs c e i p = absurd (omega arith)
  gather-at (suc n) k [] c e i p = absurd (omega arith)
  gather-at (suc n) k (j ∷ xs) c e i p =
      let high : k ≤ 512 = omega (arith, c.0, c.2) in
      go (dec_le 64 i) (λ m q. gather-later n k m high
      (gather-at n (next k) xs (rw c.0 c.3) (omega arith) m q)) high
    where
      go : Dec (64 ≤ i) → ((m : ℕ) → m < n * 64 → get_or (gather (suc n) next store k) (64 + m) 0
          ≡ get_or store (hop next ((64 + m) / 64) k * 64 + (64 + m) % 64) 0) → k ≤ 512
          → get_or (gather (suc n) next store k) i 0 ≡ get_or store (hop next (i / 64) k * 64 + i % 64) 0
      go (yes h) f high =
          let q : 64 + (i - 64) ≡ i = omega arith in
          rw q at (f (i - 64) (omega arith))
      go (no h) f high = gather-first n k i high (omega arith)

-- ---- the bytes of object o

module _ (b l : List ℕ) (o : ℕ) (long : length b ≡ Layout.BYTES) (xs : List ℕ)
    (c : Chain 512 (next_block_of l) (first_block_of l o) xs) (e : length xs ≡ blocks (size_of l o)) where
  data-length : length (data_in b) ≡ 32832
  data-length = region-length 32832 Layout.DATA b (omega arith)

  pub bytes-in-length : length (bytes_in b l o) ≡ size_of l o
  unfolding bytes_in
  bytes-in-length = bytes-length (next_block_of l) (data_in b) (size_of l o) (first_block_of l o) xs data-length c e

  pub byte_at : (p : ℕ) → p < size_of l o → get_or (bytes_in b l o) p 0 ≡ get_or b (cell_of l (first_block_of l o) p) 0
  unfolding bytes_in cell_of blocks
  byte_at p h =
      let k : ℕ = hop (next_block_of l) (p / 64) (first_block_of l o) in
      let high = (hop-block (next_block_of l) (first_block_of l o) xs c (p / 64) (byte-block e p h)).1 in
      let q : Layout.DATA + (k * 64 + p % 64) ≡ Layout.DATA + k * 64 + p % 64 = omega arith in
      get_or-take (size_of l o) _ p 0 h
      ∙ gather-at (next_block_of l) (data_in b) data-length (blocks (size_of l o)) (first_block_of l o) xs c e p (omega arith)
      ∙ region-at 32832 Layout.DATA b (k * 64 + p % 64) (omega (arith, high))
      ∙ ap (λ x. get_or b x 0) q

  module _ (start end : ℕ) (ordered : start ≤ end) (fits : end ≤ size_of l o) where
    pub part_length : length (part b l o start end) ≡ end - start
    part_length = rw (length-take, length-drop, bytes-in-length) (omega arith)

    pub part_at : (i : ℕ) → i < end - start
        → get_or (part b l o start end) i 0 ≡ get_or b (cell_of l (first_block_of l o) (start + i)) 0
    part_at i h = get_or-take (end - start) (drop start (bytes_in b l o)) i 0 h ∙ get_or-drop start (bytes_in b l o) i 0
        ∙ byte_at (start + i) (omega arith)
