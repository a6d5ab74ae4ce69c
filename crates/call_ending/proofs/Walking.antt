-- The definitions of what an object's end leaves, as the code comes to them: the last block, and the cells of the rows.
use Prim.Native.Nat.{ℕ, ◌+◌, ◌-◌, ◌*◌, ◌≤◌, ◌<◌}
use mathlib.Core.Path.{◌≡◌, refl, sym, ◌∙◌}
use mathlib.Core.Logic.{◌≢◌}
use mathlib.Core.List.{List}
use native.Mathlib.Omega.{arith}
use lib.Dec.{eqb}
use lib.ListN.{length, get_or, set, take, drop, length-take, length-drop}
use Rattle.std.proofs.lemmas.List.{get_or-take, get_or-drop}
use borrow.Author.Tests.{eq-eqb, ne_eqb}
use Rattle.rules.specs.Store.{blocks}
use Rattle.rules.proofs.Tests.{by-eq, pick_yes, pick-not}
use Rattle.layout.specs.Layout as Layout
use Rattle.layout.specs.Rows.{flag_of, count_of, cash_of, size_of, first_block_of, next_block_of, next_object_of}
use Rattle.layout.specs.View.{is_set}
use Rattle.layout.specs.Sums.{sums_from}
use Rattle.layout.proofs.Field.{field_in}
use Rattle.layout.proofs.Shown.{set-yes, set-no}
use Rattle.call_steps.specs.Tests.{ObjectSlot}
use Rattle.call_steps.proofs.Finding.{find-le, find-passed, find-end, find-this}
use Rattle.call_blocks.specs.Walk.{hop, Blocked}
use Rattle.call_blocks.proofs.Hops.{hop-block}
use Rattle.call_prune.specs.Links.{freed_cap}
use Rattle.call_ending.specs.Forfeit.{holdings, forfeited, ended_words, HoldsAsk, ForfeitAsks}
use Rattle.call_ending.specs.Links.{instead, last_block, given_blocks, is_before, before, unlinked}
use Rattle.call_ending.specs.Links.{freed_object, ended_links, BlocksAsk, ObjectAsks}
use Rattle.call_ending.specs.Ended.{EndsObject}
use Rattle.layout.proofs.Joining.{head-none}

-- ---- holdings

module _ (b w : List ℕ) {o : ℕ} (at : ObjectSlot o) where
  pub flag_cell : flag_of b o ≡ get_or b (Layout.FLAG + o) 0
  flag_cell = field_in 64 Layout.FLAG b o at.low at.high

  pub count-cell : count_of b o ≡ get_or b (Layout.COUNT + o) 0
  count-cell = field_in 64 Layout.COUNT b o at.low at.high

  pub holds-none : get_or b (Layout.FLAG + o) 0 ≡ 0 → 0 ≡ holdings b w o
  unfolding holdings
  holds-none z = sym (pick-not (is_set (flag_of b o)) _ 0 (set-no (flag_of b o) (flag_cell ∙ z)))

  -- n messages whose sums are s
  pub holds-some : {n s : ℕ} → get_or b (Layout.FLAG + o) 0 ≢ 0 → n ≡ get_or b (Layout.COUNT + o) 0
      → s ≡ sums_from w n (o * 4) → get_or w (Layout.CASH + o) 0 + s ≡ holdings b w o
  unfolding holdings
  holds-some nz e f =
      let cash : get_or w (Layout.CASH + o) 0 ≡ cash_of w o = sym (field_in 64 Layout.CASH w o at.low at.high) in
      rw (f, e, cash, ← count-cell)
      (sym (pick_yes (is_set (flag_of b o)) _ 0 (set-yes (flag_of b o) (λ z. nz (sym flag_cell ∙ z)))))

-- the count, and that the sum fits
module _ {b w : List ℕ} {o : ℕ} (a : HoldsAsk b w o) (nz : get_or b (Layout.FLAG + o) 0 ≢ 0) where
  pub count_low : get_or b (Layout.COUNT + o) 0 ≤ 4
  count_low =
      omega (arith, a.count (λ z. nz (sym (flag_cell b w a.slot) ∙ z)), count-cell b w a.slot)

  pub holds-fit : {n x : ℕ} → n ≡ get_or b (Layout.COUNT + o) 0 → x ≡ sums_from w n (o * 4)
      → get_or w (Layout.CASH + o) 0 + x ≤ 4294967295
  holds-fit e f = omega (arith, holds-some b w a.slot nz e f, a.fits)

module _ {b w : List ℕ} {o m : ℕ} (a : ForfeitAsks b w o m) where
  pub forfeit-is : {x : ℕ} → x ≡ holdings b w o → get_or w (Layout.MONEY + m) 0 + x ≡ forfeited b w o m
  unfolding forfeited
  forfeit-is e = rw (e, field_in 512 Layout.MONEY w m a.cap.low a.cap.high)

  pub holds-ask : HoldsAsk b w o
  holds-ask = record {
    bytes = a.bytes;
    words = a.words;
    slot = a.slot;
    count = a.count;
    fits = omega (arith, forfeit-is refl, a.fits);
  }

-- ---- the head of a chain

pub instead-yes : {x y : ℕ} (z : ℕ) → x ≡ y → z ≡ instead x y z
unfolding instead
instead-yes {x} {y} z e = sym (pick_yes (eqb x y) z x (eq-eqb x y e))

pub instead-not : {x y : ℕ} (z : ℕ) → x ≢ y → x ≡ instead x y z
unfolding instead
instead-not {x} {y} z ne = sym (pick-not (eqb x y) z x (ne_eqb x y ne))

-- ---- the last block

pub given_is : {l : List ℕ} {o last head : ℕ} → BlocksAsk l o → last ≡ last_block l o
    → head ≡ instead (get_or l (Layout.FIRST_BLOCK + o) 0) 0 (get_or l Layout.FREE_BLOCKS 0)
    → set (set l (Layout.NEXT_BLOCK + last) (get_or l Layout.FREE_BLOCKS 0)) Layout.FREE_BLOCKS head
    ≡ given_blocks l o
unfolding given_blocks
given_is {l} {o} a e h =
    rw (e, h, field_in 64 Layout.FIRST_BLOCK l o a.slot.low a.slot.high)

module _ {l : List ℕ} {o : ℕ} (a : BlocksAsk l o) where
  pub blocked : Blocked l (first_block_of l o) (blocks (size_of l o) - 1)
  blocked i p = (hop-block (next_block_of l) (first_block_of l o) a.chain.0 a.chain.1 i
      (omega (arith, a.chain.2))).1

  pub last_none : blocks (size_of l o) ≡ 0 → last_block l o ≡ 0
  unfolding last_block hop
  last_none z = rw z (head-none 512 (next_block_of l) (first_block_of l o) a.chain.0 a.chain.1 (a.chain.2 ∙ z))

  pub last_high : last_block l o ≤ 512
  unfolding last_block
  last_high = by-eq (blocks (size_of l o)) 0
      (λ z. omega (arith, last_none z))
      (λ nz. (hop-block (next_block_of l) (first_block_of l o) a.chain.0 a.chain.1 (blocks (size_of l o) - 1)
      (omega (arith, a.chain.2))).1)

  pub size-cell : size_of l o ≡ get_or l (Layout.SIZE + o) 0
  size-cell = field_in 64 Layout.SIZE l o a.slot.low a.slot.high

  pub first_cell : first_block_of l o ≡ get_or l (Layout.FIRST_BLOCK + o) 0
  first_cell = field_in 64 Layout.FIRST_BLOCK l o a.slot.low a.slot.high

  -- the block n steps after the first, where n is one less than they are
  pub last-is : {first n : ℕ} → first ≡ get_or l (Layout.FIRST_BLOCK + o) 0 → n ≡ blocks (get_or l (Layout.SIZE + o) 0)
      → hop (next_block_of l) (n - 1) first ≡ last_block l o
  unfolding last_block
  last-is e f = rw (size-cell, first_cell, e, f)

  pub last-first : {first n : ℕ} → first ≡ get_or l (Layout.FIRST_BLOCK + o) 0
      → n ≡ blocks (get_or l (Layout.SIZE + o) 0) → n ≡ 0 → first ≡ last_block l o
  unfolding hop
  last-first {first} {n} e f z =
      let q : hop (next_block_of l) (n - 1) first ≡ first = rw z refl in
      sym q ∙ last-is e f

  pub blocked-is : {first n : ℕ} → first ≡ get_or l (Layout.FIRST_BLOCK + o) 0 → n ≡ blocks (get_or l (Layout.SIZE + o) 0)
      → Blocked l first (n - 1)
  blocked-is e f = rw (e, f, ← size-cell, ← first_cell) blocked

-- ---- the object before

pub before_high : (l : List ℕ) (o : ℕ) → before l o ≤ 64
unfolding before
before_high l o = find-le (is_before l o) 64

-- the objects' row of links is o's only up to place r, where o stands unless r is 0
pub before-found : (l : List ℕ) (o r : ℕ) → length l ≡ Layout.LINKS → let row : List ℕ = take 65 (drop Layout.NEXT_OBJECT l) in
    r < length row → (r ≢ 0 → get_or row r 0 ≡ o) → ((k : ℕ) → r < k → k < length row → get_or row k 0 ≢ o) → r ≡ before l o
unfolding before is_before
before-found l o r size inside stands behind =
    let row : List ℕ = take 65 (drop Layout.NEXT_OBJECT l) in
    let n : length row ≡ 65 = omega (arith, length-take 65 (drop Layout.NEXT_OBJECT l), length-drop Layout.NEXT_OBJECT l, size) in
    let high : r ≤ 64 = omega (arith, inside, n) in
    let cell : (k : ℕ) → 1 ≤ k → k ≤ 64 → get_or row k 0 ≡ next_object_of l k =
    λ k a b. get_or-take 65 (drop Layout.NEXT_OBJECT l) k 0 (omega arith)
    ∙ get_or-drop Layout.NEXT_OBJECT l k 0 ∙ sym (field_in 64 Layout.NEXT_OBJECT l k a b) in
    sym (find-passed (is_before l o) 64 r high
    (λ k a b. ne_eqb _ _ (λ q. behind k a (omega (arith, n)) (cell k (omega arith) b ∙ q)))
    ∙ by-eq r 0
    (λ z. find-end (is_before l o) r z ∙ sym z)
    (λ nz. find-this (is_before l o) r (omega arith) (eq-eqb _ _ (sym (cell r (omega arith) high) ∙ stands nz))))

pub unlinked-is : {l : List ℕ} {o i head : ℕ} → ObjectAsks l o → i ≡ before l o
    → head ≡ instead (get_or l Layout.OBJECTS 0) o (get_or l (Layout.NEXT_OBJECT + o) 0)
    → set (set l (Layout.NEXT_OBJECT + i) (get_or l (Layout.NEXT_OBJECT + o) 0)) Layout.OBJECTS head ≡ unlinked l o
unfolding unlinked
unlinked-is {l} {o} a e h = rw (e, h, field_in 64 Layout.NEXT_OBJECT l o a.slot.low a.slot.high)

-- ---- the whole

pub ended_is : {b l w l₁ l₂ l₃ l₄ w₁ : List ℕ} {o m : ℕ} → w₁ ≡ ended_words b w o m → l₁ ≡ given_blocks l o
    → l₂ ≡ unlinked l₁ o → l₃ ≡ freed_object l₂ o → l₄ ≡ freed_cap l₃ m → EndsObject b l w o m l₄ w₁
unfolding ended_links
ended_is x p q r s = record { links = rw (s, r, q, p); words = x }
