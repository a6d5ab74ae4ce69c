-- The loops that copy: the block that the walk is at, and the part of the copy that stands in it.
use Prim.Native.Nat.{ℕ, zero, suc, ◌+◌, ◌*◌, ◌-◌, ◌/◌, ◌%◌, ◌≤◌, ◌<◌, min}
use mathlib.Core.Path.{◌≡◌, sym, ap, ◌∙◌}
use mathlib.Core.List.{List}
use native.Mathlib.Omega.{arith}
use lib.ListN.{set}
use Rattle.rules.specs.Store.{blocks}
use Rattle.layout.specs.Layout as Layout
use Rattle.layout.specs.Rows.{next_block_of}
use Rattle.call_blocks.specs.Walk.{hop, Blocked}
use Rattle.call_blocks.proofs.Hops.{hop-last}
use Rattle.call_steps.specs.Copies.{laid}
use Rattle.call_steps.proofs.Copying.{laid_same}
use Rattle.call_transfer.specs.Runs.{cell_of, CopyAsks}

-- byte start + i, of n, stands in the block, if there is one more
pub record Walking (l : List ℕ) (head start n i block : ℕ) : Type 0 where
  pub below : i ≤ n
  pub block-is : i < n → block ≡ hop (next_block_of l) ((start + i) / 64) head

-- ---- stores after stores

laid_on : (place value : ℕ → ℕ) (xs : List ℕ) (i m : ℕ)
    → laid place value (i + m) xs ≡ laid (λ j. place (i + j)) (λ j. value (i + j)) m (laid place value i xs)
unfolding laid
laid_on place value xs i zero =
    let e : i + 0 ≡ i = omega arith in
    rw e
laid_on place value xs i (suc m) =
    let e : i + suc m ≡ suc (i + m) = omega arith in
    rw (e, laid) (ap (λ ys. set ys (place (i + m)) (value (i + m))) (laid_on place value xs i m))

-- m stores after i of them, in their order, are i + m
pub laid_more : (place value place' value' : ℕ → ℕ) (xs ys zs : List ℕ) (i m : ℕ) → ys ≡ laid place value i xs
    → zs ≡ laid place' value' m ys → ((j : ℕ) → j < m → place (i + j) ≡ place' j)
    → ((j : ℕ) → j < m → value (i + j) ≡ value' j) → zs ≡ laid place value (i + m) xs
laid_more place value place' value' xs ys zs i m e f p v =
    f ∙ ap (laid place' value' m) e
    ∙ sym (laid_on place value xs i m
    ∙ laid_same (λ j. place (i + j)) place' (λ j. value (i + j)) value' (laid place value i xs) m p v)

-- ---- the walk

module _ {b l : List ℕ} {head start n : ℕ} (a : CopyAsks b l head start n) where
  -- the walk to the first byte's block stays among the blocks
  pub walk-blocked : Blocked l head (start / 64)
  unfolding blocks
  walk-blocked i h = a.blocked i (omega arith)

  pub walk-starts : (block : ℕ) → block ≡ hop (next_block_of l) (start / 64) head → Walking l head start n 0 block
  walk-starts block e =
      let z : start + 0 ≡ start = omega arith in
      record { below = omega arith; block-is = λ _. rw z e }

  module _ {i block : ℕ} (w : Walking l head start n i block) (more : i < n) where
    pub walk_block : block ≤ 512
    unfolding blocks
    walk_block = rw (w.block-is more) (a.blocked ((start + i) / 64) (omega arith))

    -- m bytes stand in the block
    module _ (m : ℕ) (part : m ≡ min (n - i) (64 - (start + i) % 64)) where
      pub part-cell : (j : ℕ) → j < m → cell_of l head (start + (i + j)) ≡ Layout.DATA + block * 64 + (start + i) % 64 + j
      unfolding cell_of
      part-cell j h =
          let q : (start + (i + j)) / 64 ≡ (start + i) / 64 = omega arith in
          let r : (start + (i + j)) % 64 ≡ (start + i) % 64 + j = omega arith in
          rw (q, r, ← w.block-is more) (omega arith)

      pub walk-on : (r : ℕ) → r ≡ next_block_of l block → Walking l head start n (i + m) r
      walk-on r e = record {
        below = omega arith;
        block-is = λ h.
            let q : (start + (i + m)) / 64 ≡ suc ((start + i) / 64) = omega arith in
            rw (q, hop-last (next_block_of l) ((start + i) / 64) head) (e ∙ ap (next_block_of l) (w.block-is more));
      }
