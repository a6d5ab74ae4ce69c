-- The bytes after `clear`: those of the blocks cleared are zero, and all others are as they were.
use Prim.Native.Nat.{ℕ, zero, suc, ◌+◌, ◌*◌, ◌≤◌, ◌<◌}
use mathlib.Core.Path.{◌≡◌, refl, sym, ap, ◌∙◌}
use mathlib.Core.Logic.{◌≢◌}
use mathlib.Core.List.{List, [], ◌∷◌, ◌++◌}
use native.Mathlib.Omega.{arith}
use lib.ListN.{length, get_or, take, drop, replicate, length-take, length-drop, length-replicate, get_or-replicate}
use lib.ListN.{replicate-append-replicate}
use lib.Seq.{get_or-set_other, get_or-set_same, get_or-take, get_or-drop, ext_get_or}
use Rattle.rules.specs.Store.{blocks}
use Rattle.rules.proofs.Tests.{by-eq}
use Rattle.layout.specs.Layout as Layout
use Rattle.layout.specs.Rows.{field, data_in, text_in}
use Rattle.layout.specs.View.{gather}
use Rattle.layout.specs.Shape.{Chain, times}
use Rattle.layout.proofs.Counts.{one_same}
use Rattle.layout.proofs.Field.{field-cells, region-cells, region-at, region-length}
use Rattle.call_blocks.specs.Walk.{hop}
use Rattle.call_blocks.specs.Taking.{zeroed, data_from, cleared}
use Rattle.call_blocks.proofs.Walking.{zeroed-length}
use Rattle.call_blocks.proofs.Splitting.{Split}

-- ---- cells

-- cell p is one of block k
pub record Inside (k p : ℕ) : Type 0 where
  pub low : data_from k ≤ p
  pub high : p < data_from k + 64

zeroed-out : (n from : ℕ) (b : List ℕ) (p : ℕ) → ((i : ℕ) → i < n → from + i ≢ p)
    → get_or (zeroed n from b) p 0 ≡ get_or b p 0
unfolding zeroed
zeroed-out zero from b p h = refl
zeroed-out (suc n) from b p h =
    get_or-set_other (zeroed n from b) (from + n) p 0 0 (λ e. h n (omega arith) (sym e))
    ∙ zeroed-out n from b p (λ i q. h i (omega arith))

zeroed-in : (n from : ℕ) (b : List ℕ) (p : ℕ) → from ≤ p → p < from + n → p < length b
    → get_or (zeroed n from b) p 0 ≡ 0
unfolding zeroed
zeroed-in zero from b p x y z = absurd (omega arith)
zeroed-in (suc n) from b p x y z = by-eq p (from + n)
    (λ e. rw e (get_or-set_same (zeroed n from b) (from + n) 0 0 (rw (zeroed-length n from b) (omega arith))))
    (λ ne. get_or-set_other (zeroed n from b) (from + n) p 0 0 ne ∙ zeroed-in n from b p x (omega arith) z)

zeroed-none : (n from : ℕ) (b : List ℕ) (p : ℕ) → get_or b p 0 ≡ 0 → p < length b → get_or (zeroed n from b) p 0 ≡ 0
unfolding zeroed
zeroed-none zero from b p e z = e
zeroed-none (suc n) from b p e z = by-eq p (from + n)
    (λ q. rw q (get_or-set_same (zeroed n from b) (from + n) 0 0 (rw (zeroed-length n from b) (omega arith))))
    (λ ne. get_or-set_other (zeroed n from b) (from + n) p 0 0 ne ∙ zeroed-none n from b p e z)

module _ (next : ℕ → ℕ) where
  pub cleared-length : (n k : ℕ) (b : List ℕ) → length (cleared next n k b) ≡ length b
  unfolding cleared
  cleared-length zero k b = refl
  cleared-length (suc n) k b = cleared-length n (next k) (zeroed 64 (data_from k) b) ∙ zeroed-length 64 (data_from k) b

  -- a cell of no block cleared
  cleared-out : (n k : ℕ) (b : List ℕ) (p : ℕ) → ((i : ℕ) → i < n → Inside (hop next i k) p → ⊥)
      → get_or (cleared next n k b) p 0 ≡ get_or b p 0
  unfolding cleared hop
  cleared-out zero k b p h = refl
  cleared-out (suc n) k b p h =
      cleared-out n (next k) (zeroed 64 (data_from k) b) p (λ i q. h (suc i) (omega arith))
      ∙ zeroed-out 64 (data_from k) b p (λ i q e. h 0 (omega arith) (record { low = omega arith; high = omega arith }))

  -- a cell that is zero stays so
  cleared-none : (n k : ℕ) (b : List ℕ) (p : ℕ) → get_or b p 0 ≡ 0 → p < length b → get_or (cleared next n k b) p 0 ≡ 0
  unfolding cleared
  cleared-none zero k b p e z = e
  cleared-none (suc n) k b p e z =
      cleared-none n (next k) (zeroed 64 (data_from k) b) p (zeroed-none 64 (data_from k) b p e z)
      (rw (zeroed-length 64 (data_from k) b) z)

  -- a cell of a block cleared
  cleared-in : (n k : ℕ) (b : List ℕ) (p i : ℕ) → i < n → Inside (hop next i k) p → p < length b
      → get_or (cleared next n k b) p 0 ≡ 0
  unfolding cleared hop
  cleared-in zero k b p i h x z = absurd (omega arith)
  cleared-in (suc n) k b p zero h x z =
      cleared-none n (next k) (zeroed 64 (data_from k) b) p (zeroed-in 64 (data_from k) b p x.low x.high z)
      (rw (zeroed-length 64 (data_from k) b) z)
  cleared-in (suc n) k b p (suc i) h x z =
      cleared-in n (next k) (zeroed 64 (data_from k) b) p i (omega arith) x (rw (zeroed-length 64 (data_from k) b) z)

-- ---- zeros

unfoldable pub zeros : ℕ → List ℕ
zeros n = replicate n 0

zeros-length : (n : ℕ) → length (zeros n) ≡ n
unfolding zeros
zeros-length n = length-replicate {A = ℕ} n 0

zeros-at : (n i : ℕ) → i < n → get_or (zeros n) i 0 ≡ 0
unfolding zeros
zeros-at n i h = get_or-replicate n i 0 0 h

zeros-none : [] ≡ zeros 0
unfolding zeros
zeros-none = refl

zeros-more : (n m : ℕ) → zeros n ++ zeros m ≡ zeros (n + m)
unfolding zeros
zeros-more n m = replicate-append-replicate {A = ℕ} n m 0

-- ---- blocks

-- the bytes of block k
abbrev pub block_in : List ℕ → ℕ → List ℕ
block_in b k = take 64 (drop (k * 64) (data_in b))

module _ (b : List ℕ) (long : length b ≡ Layout.BYTES) (k : ℕ) (high : k ≤ 512) where
  block-length : length (block_in b k) ≡ 64
  block-length =
      omega (
        arith,
        length-take 64 (drop (k * 64) (data_in b)),
        length-drop (k * 64) (data_in b),
        region-length 32832 Layout.DATA b (omega arith),
      )

  block_at : (i : ℕ) → i < 64 → get_or (block_in b k) i 0 ≡ get_or b (data_from k + i) 0
  block_at i h =
      let e : Layout.DATA + (k * 64 + i) ≡ data_from k + i = omega arith in
      get_or-take 64 (drop (k * 64) (data_in b)) i 0 h
      ∙ get_or-drop (k * 64) (data_in b) i 0
      ∙ region-at 32832 Layout.DATA b (k * 64 + i) (omega arith)
      ∙ ap (λ x. get_or b x 0) e

module _ (b : List ℕ) (long : length b ≡ Layout.BYTES) {next next' : ℕ → ℕ} {head first rest n : ℕ} {xs : List ℕ}
    (S : Split next next' head first rest n xs) where
  abbrev b' : List ℕ
  b' = cleared next n head b

  pub clear-length : length b' ≡ Layout.BYTES
  clear-length = cleared-length next n head b ∙ long

  pub block-cleared : (k : ℕ) → k ≤ 512 → 1 ≤ times k S.front → block_in b' k ≡ zeros 64
  block-cleared k high h =
      let f = S.found k h in
      ext_get_or 0 (block_in b' k) (zeros 64)
      (block-length b' clear-length k high ∙ sym (zeros-length 64))
      (λ i p.
      let q : i < 64 = omega (arith, p, block-length b' clear-length k high) in
      block_at b' clear-length k high i q
      ∙ cleared-in next n head b (data_from k + i) f.0 f.1
      (rw (← f.2) (record { low = omega arith; high = omega arith })) (omega arith)
      ∙ sym (zeros-at 64 i q))

  pub block-kept : (k : ℕ) → k ≤ 512 → times k S.front ≡ 0 → block_in b' k ≡ block_in b k
  block-kept k high z =
      ext_get_or 0 (block_in b' k) (block_in b k)
      (block-length b' clear-length k high ∙ sym (block-length b long k high))
      (λ i p.
      let q : i < 64 = omega (arith, p, block-length b' clear-length k high) in
      block_at b' clear-length k high i q
      ∙ cleared-out next n head b (data_from k + i) (λ j r x.
      let e : hop next j head ≡ k = omega (arith, x.low, x.high) in
      omega (arith, z, ap (λ y. times y S.front) e, S.place j r))
      ∙ sym (block_at b long k high i q))

  -- the rows and the texts stand below the data
  low-kept : (p : ℕ) → p < Layout.DATA → get_or b' p 0 ≡ get_or b p 0
  low-kept p h = cleared-out next n head b p (λ i q x. omega (arith, x.low))

  pub clear-row : (m off : ℕ) → off + m < Layout.DATA → field m off b' ≡ field m off b
  clear-row m off h = field-cells m off b' b (λ i p q. low-kept (off + i) (omega arith))

  pub clear-text : text_in b' ≡ text_in b
  clear-text = region-cells 4160 Layout.TEXT b' b (clear-length ∙ sym long)
      (λ i p. low-kept (Layout.TEXT + i) (omega arith))

-- ---- 01, "New bytes are zero"

gather-zero : (next : ℕ → ℕ) (store : List ℕ) (n head : ℕ) (xs : List ℕ) → Chain 512 next head xs → length xs ≡ n
    → ((k : ℕ) → 1 ≤ times k xs → take 64 (drop (k * 64) store) ≡ zeros 64)
    → gather n next store head ≡ zeros (n * 64)
unfolding gather Chain times
gather-zero next store zero head xs c e z = zeros-none
gather-zero next store (suc n) head [] c e z = absurd (omega arith)
gather-zero next store (suc n) head (j ∷ xs) c e z =
    let here : 1 ≤ times head (j ∷ xs) = rw c.0 (omega (arith, one_same j)) in
    let d : 64 + n * 64 ≡ suc n * 64 = omega arith in
    rw (
      z head here,
      c.0,
      gather-zero next store n (next j) xs c.3 (omega arith) (λ k p. z k (omega arith)),
      zeros-more 64 (n * 64),
      d,
    )

bytes-zeros : (next : ℕ → ℕ) (store : List ℕ) (size head : ℕ) (xs : List ℕ) → Chain 512 next head xs
    → length xs ≡ blocks size
    → ((k : ℕ) → 1 ≤ times k xs → take 64 (drop (k * 64) store) ≡ zeros 64)
    → take size (gather (blocks size) next store head) ≡ zeros size
unfolding blocks
bytes-zeros next store size head xs c e z =
    rw (gather-zero next store (blocks size) head xs c e z)
    (ext_get_or 0 (take size (zeros (blocks size * 64))) (zeros size)
    (length-take size (zeros (blocks size * 64))
    ∙ rw (zeros-length (blocks size * 64), zeros-length size) (omega arith))
    (λ i p.
    let q : i < size = omega (arith, p, length-take size (zeros (blocks size * 64))) in
    get_or-take size (zeros (blocks size * 64)) i 0 q
    ∙ zeros-at (blocks size * 64) i (omega arith)
    ∙ sym (zeros-at size i q)))

pub bytes-zero : (next : ℕ → ℕ) (store : List ℕ) (size head : ℕ) (xs : List ℕ) → Chain 512 next head xs
    → length xs ≡ blocks size
    → ((k : ℕ) → 1 ≤ times k xs → take 64 (drop (k * 64) store) ≡ zeros 64)
    → take size (gather (blocks size) next store head) ≡ replicate size 0
unfolding zeros
bytes-zero next store size head xs c e z = bytes-zeros next store size head xs c e z
