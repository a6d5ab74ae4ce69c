-- The links after `take`: which rows change, that the first n free blocks are the object's chain, and the shape of the
-- blocks.
use Prim.Native.Nat.{ℕ, zero, suc, ◌-◌, ◌≤◌, ◌<◌}
use mathlib.Core.Path.{◌≡◌, refl, sym, ap, ◌∙◌}
use mathlib.Core.Logic.{◌≢◌}
use mathlib.Core.Bool.{true, false}
use mathlib.Core.List.{List, [], ◌∷◌}
use native.Mathlib.Omega.{arith}
use lib.Dec.{ltb}
use lib.ListN.{length, get_or}
use borrow.Author.Tests.{le-ltb, ltb-false}
use Rattle.rules.specs.Store.{free_blocks}
use Rattle.rules.proofs.Slots.{at_here, at-else}
use Rattle.layout.specs.Layout as Layout
use Rattle.layout.specs.Rows.{field, first_block_of, next_block_of}
use Rattle.layout.specs.View.{view}
use Rattle.layout.specs.Shape.{times, Blocks}
use Rattle.layout.proofs.Puts.{Put, put, Within, beside, length-puts, field_puts, field-kept, head_puts}
use Rattle.layout.proofs.Heads.{head-kept}
use Rattle.layout.proofs.Free.{blocks-free}
use Rattle.call_blocks.specs.Taking.{free_head, free_block, too_few, taken_links, FreeChain, Enough}
use Rattle.call_blocks.proofs.Hops.{past_is}
use Rattle.call_blocks.proofs.Walking.{next-zero}
use Rattle.call_blocks.proofs.Cutting.{Block, last_block}
use Rattle.call_blocks.proofs.Splitting.{Split, split-none, split-some}

-- ---- 01, "too few free blocks"

module _ (b l w : List ℕ) (B : Blocks l) where
  pub few-is : (n : ℕ) → too_few l n ≡ ltb (free_blocks (view b l w)) n
  unfolding too_few
  few-is zero = sym (le-ltb (free_blocks (view b l w)) 0 (omega arith))
  few-is (suc m) = past_is (next_block_of l) (next-zero l) m (free_head l) B.free B.free-chain
      ∙ ap (λ x. ltb x (suc m)) (sym (blocks-free b l w B))

-- where there are not
pub enough-of : {l : List ℕ} (n : ℕ) → FreeChain l → too_few l n ≡ false → Enough l n
unfolding too_few
enough-of {l} zero f e = record { links = f.links; chain = (f.chain.0, f.chain.1, omega arith) }
enough-of {l} (suc m) f e =
    let p = past_is (next_block_of l) (next-zero l) m (free_head l) f.chain.0 f.chain.1 in
    let q : ltb (length f.chain.0) (suc m) ≡ false = sym p ∙ e in
    record {
      links = f.links;
      chain = (f.chain.0, f.chain.1, omega (arith, ltb-false (length f.chain.0) (suc m) q));
    }

-- the free list of a shape
pub few-enough : (l : List ℕ) (B : Blocks l) (n : ℕ) → too_few l n ≡ false → n ≤ length B.free
unfolding too_few
few-enough l B zero e = omega arith
few-enough l B (suc m) e =
    let p = past_is (next_block_of l) (next-zero l) m (free_head l) B.free B.free-chain in
    let q : ltb (length B.free) (suc m) ≡ false = sym p ∙ e in
    omega (arith, ltb-false (length B.free) (suc m) q)

-- ---- the rows

module _ (l : List ℕ) (long : length l ≡ Layout.LINKS) (o : ℕ) (low : 1 ≤ o) (high : o ≤ 64) where
  abbrev stores : ℕ → List Put
  stores m =
      put 64 Layout.FIRST_BLOCK o (free_head l)
      ∷ put 512 Layout.NEXT_BLOCK (free_block l m) 0
      ∷ put 0 Layout.FREE_BLOCKS 0 (next_block_of l (free_block l m))
      ∷ []

  abbrev nothing : List Put
  nothing = put 64 Layout.FIRST_BLOCK o 0 ∷ []

  -- the last block of those taken
  abbrev pub Last : ℕ → Type 0
  Last zero = Unit {0}
  Last (suc m) = Block (free_block l m)

  pub taken-length : (n : ℕ) → length (taken_links l o n) ≡ length l
  unfolding taken_links
  taken-length zero = length-puts nothing l
  taken-length (suc m) = length-puts (stores m) l

  within : (m : ℕ) → Block (free_block l m) → Within (stores m)
  within m q = (high, (q.high, (omega arith, tt)))

  -- a row, or a head, that is neither of the two nor the head of the free blocks
  pub taken-row : (n : ℕ) → Last n → (k off : ℕ) → beside (suc k) off (stores 0) ≡ true
      → beside (suc k) off nothing ≡ true → field k off (taken_links l o n) ≡ field k off l
  unfolding taken_links
  taken-row zero q k off t u = field-kept k off l nothing u (high, tt)
  taken-row (suc m) q k off t u = field-kept k off l (stores m) t (within m q)

  pub taken-head : (n : ℕ) → Last n → (h : ℕ) → h < Layout.LINKS → beside 1 h (stores 0) ≡ true
      → beside 1 h nothing ≡ true → get_or (taken_links l o n) h 0 ≡ get_or l h 0
  unfolding taken_links
  taken-head zero q h p t u = head-kept h l nothing u (high, tt)
  taken-head (suc m) q h p t u = head-kept h l (stores m) t (within m q)

  -- the first block of o alone changes
  pub taken-first : (n : ℕ) → Last n → (q : ℕ) → q ≢ o → first_block_of (taken_links l o n) q ≡ first_block_of l q
  unfolding taken_links
  taken-first zero y q ne =
      (λ k. field_puts 64 Layout.FIRST_BLOCK l (omega arith) nothing refl (high, tt) (low, tt) k q)
      ∙ at-else (first_block_of l) o 0 q ne
  taken-first (suc m) y q ne =
      (λ k. field_puts 64 Layout.FIRST_BLOCK l (omega arith) (stores m) refl (within m y) (low, (tt, (tt, tt))) k q)
      ∙ at-else (first_block_of l) o (free_head l) q ne

  pub last-enough : (n : ℕ) → Enough l n → Last n
  last-enough zero e = tt
  last-enough (suc m) e =
      let p : suc m - 1 ≡ m = omega arith in
      last_block e (omega arith) (free_block l m) (ap (free_block l) (sym p))

  -- ---- the chain cut

  module _ (B : Blocks l) where
    once : (k : ℕ) → 1 ≤ k → k ≤ 512 → times k B.free ≤ 1
    once k p q = omega (arith, B.once k p q)

    pub last_of : (n : ℕ) → n ≤ length B.free → Last n
    last_of n h = last-enough n (record { links = long; chain = (B.free, B.free-chain, h) })

    pub taken-split : (n : ℕ) → n ≤ length B.free
        → Split (next_block_of l) (next_block_of (taken_links l o n)) (free_head l) (first_block_of (taken_links l o n) o)
        (free_head (taken_links l o n)) n B.free
    unfolding taken_links
    taken-split zero h =
        rw (
          field-kept 512 Layout.NEXT_BLOCK l nothing refl (high, tt),
          head-kept Layout.FREE_BLOCKS l nothing refl (high, tt),
          (λ k. field_puts 64 Layout.FIRST_BLOCK l (omega arith) nothing refl (high, tt) (low, tt) k o)
              ∙ at_here (first_block_of l) o 0,
        )
        (split-none (next_block_of l) (free_head l) B.free B.free-chain)
    taken-split (suc m) h =
        let y : Block (free_block l m) = last_of (suc m) h in
        rw (
          field_puts 512 Layout.NEXT_BLOCK l (omega arith) (stores m) refl (within m y) (tt, (y.low, (tt, tt))),
          head_puts Layout.FREE_BLOCKS l (omega arith) (stores m) refl (within m y),
          (λ k. field_puts 64 Layout.FIRST_BLOCK l (omega arith) (stores m) refl (within m y) (low, (tt, (tt, tt))) k o)
              ∙ at_here (first_block_of l) o (free_head l),
        )
        (split-some (next_block_of l) m (free_head l) B.free B.free-chain h once)
