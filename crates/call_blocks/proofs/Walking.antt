-- The loops along the chain of free blocks.
use Prim.Native.Nat.{ℕ, zero, suc, ◌+◌, ◌-◌, ◌≤◌, ◌<◌}
use mathlib.Core.Path.{◌≡◌, refl, sym, ap, ◌∙◌}
use mathlib.Core.List.{List, [], ◌∷◌}
use native.Mathlib.Omega.{arith}
use native.Mathlib.Numerals.{add-one}
use lib.ListN.{length, set, take, drop, replicate, length-set, length-drop, length-replicate, get_or-replicate}
use lib.Seq.{paste, paste-zero, paste-suc, length-take-le}
use borrow.Rule.Slice.PartMut.{put_mid}
use Rattle.std.proofs.lemmas.Slice.{put_mid-paste}
use Rattle.layout.specs.Layout as Layout
use Rattle.layout.specs.Rows.{next_block_of}
use Rattle.layout.specs.Shape.{Chain}
use Rattle.layout.proofs.Field.{field_out}
use Rattle.call_blocks.specs.Walk.{hop, Blocked}
use Rattle.call_blocks.specs.Taking.{free_head, free_block, last_taken, zeroed, data_from, cleared, FreeChain, Enough}
use Rattle.call_blocks.proofs.Hops.{hop-last, hop-high}

-- after 0 comes 0
pub next-zero : (l : List ℕ) → next_block_of l 0 ≡ 0
next-zero l = field_out 512 Layout.NEXT_BLOCK l 0 (λ p _. omega arith)

-- ---- chains

-- a chain from block on, of n blocks or more
pub record Rest (next : ℕ → ℕ) (block n : ℕ) : Type 0 where
  pub blocks : List ℕ
  pub chain : Chain 512 next block blocks
  pub long : n ≤ length blocks

module _ {next : ℕ → ℕ} {block : ℕ} where
  pub rest-high : {n : ℕ} → Rest next block n → block ≤ 512
  unfolding Chain
  rest-high r = go r.blocks r.chain
    where
      go : (xs : List ℕ) → Chain 512 next block xs → block ≤ 512
      go [] c = omega arith
      go (j ∷ xs) c = omega (arith, c.0, c.2)

  -- past its end, too, where after 0 comes 0
  pub rest-next : {n : ℕ} → next 0 ≡ 0 → Rest next block n → Rest next (next block) (n - 1)
  unfolding Chain
  rest-next {n} z r = go r.blocks r.chain r.long
    where
      go : (xs : List ℕ) → Chain 512 next block xs → n ≤ length xs → Rest next (next block) (n - 1)
      go [] c h = record { blocks = []; chain = ap next c ∙ z; long = omega arith }
      go (j ∷ xs) c h = record { blocks = xs; chain = rw c.0 c.3; long = omega arith }

-- ---- the last block passed

-- i blocks are passed: block is the next, last the last of them
pub record Passing (l : List ℕ) (i block last : ℕ) : Type 0 where
  pub here : block ≡ free_block l i
  pub passed : last ≡ last_taken l i

pub passing-none : (l : List ℕ) (k : ℕ) → k ≡ free_head l → Passing l 0 k 0
unfolding hop last_taken
passing-none l k e = record { here = e; passed = refl }

pub passing-more : {l : List ℕ} {i block last : ℕ} → Passing l i block last → (k : ℕ) → k ≡ next_block_of l block
    → Passing l (i + 1) k block
unfolding last_taken
passing-more {l} {i} {block} p k e = rw (add-one i) (record {
  here = e ∙ ap (next_block_of l) p.here ∙ sym (hop-last (next_block_of l) i (free_head l));
  passed = p.here;
})

pub passing-all : {l : List ℕ} {n i block last : ℕ} → Passing l i block last → i ≡ n → last ≡ last_taken l n
passing-all {l} p e = p.passed ∙ ap (last_taken l) e

-- ---- zeros

pub zeroed-length : (n from : ℕ) (b : List ℕ) → length (zeroed n from b) ≡ length b
unfolding zeroed
zeroed-length zero from b = refl
zeroed-length (suc n) from b = length-set (zeroed n from b) (from + n) 0 ∙ zeroed-length n from b

zeroed-paste : (n m from : ℕ) (b : List ℕ) → from + n ≤ length b → n ≤ m → zeroed n from b ≡ paste b from (replicate m 0) n
unfolding zeroed
zeroed-paste zero m from b h k = paste-zero b from (replicate m 0)
zeroed-paste (suc n) m from b h k =
    let long : length (replicate {A = ℕ} m 0) ≡ m = length-replicate {A = ℕ} m 0 in
    ap (λ l. set l (from + n) 0) (zeroed-paste n m from b (omega arith) (omega arith))
    ∙ ap (set (paste b from (replicate m 0) n) (from + n)) (sym (get_or-replicate m n 0 0 (omega arith)))
    ∙ paste-suc b from (replicate m 0) n 0 (omega arith) (omega arith)

-- the library's fill of a part with zeros
pub zeroed-fill : (b part : List ℕ) (from end n : ℕ) → end ≡ from + n → from + n ≤ length b
    → part ≡ replicate (length (take (end - from) (drop from b))) 0 → put_mid from (end - from) b part ≡ zeroed n from b
zeroed-fill b part from end n e fits p =
    let room : end - from ≤ length (drop from b) = omega (arith, length-drop from b) in
    let long : length (take (end - from) (drop from b)) ≡ n = length-take-le (end - from) (drop from b) room ∙ omega arith in
    put_mid-paste from (end - from) b part (replicate n 0) n (p ∙ ap (λ m. replicate m 0) long) (omega arith)
    (sym (length-replicate n 0))
    ∙ sym (zeroed-paste n n from b fits (omega arith))

-- the turns of the loop over the blocks
pub record Clearing (next : ℕ → ℕ) (head n : ℕ) (b b' : List ℕ) (i block : ℕ) : Type 0 where
  pub below : i ≤ n
  pub chain : Rest next block (n - i)
  pub size : length b' ≡ length b
  pub same : cleared next (n - i) block b' ≡ cleared next n head b

pub clearing-none : {next : ℕ → ℕ} {head n : ℕ} (b : List ℕ) → Rest next head n → Clearing next head n b b 0 head
clearing-none {next} {head} {n} b r =
    let e : n - 0 ≡ n = omega arith in
    record { below = omega arith; chain = rw e r; size = refl; same = ap (λ m. cleared next m head b) e }

pub clearing-more : {next : ℕ → ℕ} {head n : ℕ} {b b' : List ℕ} {i block : ℕ} → next 0 ≡ 0
    → Clearing next head n b b' i block → i < n → (b'' : List ℕ) → b'' ≡ zeroed 64 (data_from block) b'
    → Clearing next head n b b'' (i + 1) (next block)
unfolding cleared
clearing-more {next} {head} {n} {b} {b'} {i} {block} z w h b'' q =
    let e : n - i ≡ suc (n - (i + 1)) = omega arith in
    let d : n - i - 1 ≡ n - (i + 1) = omega arith in
    record {
      below = omega arith;
      chain = rw d at (rest-next z w.chain);
      size = ap length q ∙ zeroed-length 64 (data_from block) b' ∙ w.size;
      same = ap (cleared next (n - (i + 1)) (next block)) q ∙ sym (ap (λ m. cleared next m block b') e) ∙ w.same;
    }

pub clearing-all : {next : ℕ → ℕ} {head n : ℕ} {b b' : List ℕ} {i block : ℕ} → Clearing next head n b b' i block
    → n ≤ i → b' ≡ cleared next n head b
unfolding cleared
clearing-all {next} {head} {n} {b} {b'} {i} {block} w h =
    let e : n - i ≡ 0 = omega arith in
    sym (ap (λ m. cleared next m block b') e) ∙ w.same

-- ---- what the code asks

pub free-blocked : {l : List ℕ} → FreeChain l → (n : ℕ) → Blocked l (free_head l) n
free-blocked {l} f n i h = hop-high (next_block_of l) (next-zero l) i (free_head l) f.chain.0 f.chain.1

pub enough-rest : {l : List ℕ} {n : ℕ} → Enough l n → Rest (next_block_of l) (free_head l) n
enough-rest f = record { blocks = f.chain.0; chain = f.chain.1; long = f.chain.2 }
