-- A turned list: turning twice gives it back; bit by bit, `turned` has every bit in its place, and no other list has.
use Prim.Native.Nat.{ℕ, zero, suc, ◌+◌, ◌*◌, ◌-◌, ◌/◌, ◌%◌, ◌≤◌, ◌<◌}
use mathlib.Core.Path.{◌≡◌, refl, sym, ap, ◌∙◌}
use mathlib.Core.List.{List, ◌++◌}
use native.Mathlib.Decide.{dec_le}
use native.Mathlib.Omega.{arith}
use lib.ListN.{get_or-append, length, get_or, take, drop}
use lib.Seq.{ext_get_or, get_or-append-add, get_or-take, get_or-drop}
use Rattle.product_hooks.specs.Turned.{bit_of, turned_byte, turned_tile, turned_tiles, turned}
use Rattle.product_hooks.specs.Theorems.{Turns, TurnedTurns, OnlyTurned, Twice}
use Rattle.product_hooks.proofs.Bits.{bit_le}
use Rattle.product_hooks.proofs.Byte.{byte-made, byte-same, byte_le}
use Rattle.product_hooks.proofs.Tiles.{length-tile, tile-at, tile-bit, length-tiles, tiles-twice}

-- ---- what stands in t ++ l, where t is a tile

first : (t l : List ℕ) (p : ℕ) → length t ≡ 8 → p < 8 → get_or (t ++ l) p 0 ≡ get_or t p 0
first t l p n h = get_or-append t l 0 p (omega arith)

later : (t l : List ℕ) (p : ℕ) → length t ≡ 8 → 8 ≤ p → get_or (t ++ l) p 0 ≡ get_or l (p - 8) 0
later t l p n h = let e : p ≡ length t + (p - 8) = omega arith in
    ap (λ (q : ℕ). get_or (t ++ l) q 0) e ∙ get_or-append-add t l (p - 8) 0

dropped : (l : List ℕ) (p : ℕ) → 8 ≤ p → get_or (drop 8 l) (p - 8) 0 ≡ get_or l p 0
dropped l p h = let e : 8 + (p - 8) ≡ p = omega arith in get_or-drop 8 l (p - 8) 0 ∙ ap (λ (q : ℕ). get_or l q 0) e

tile-small : (t : List ℕ) (p : ℕ) → p < 8 → get_or (turned_tile t) p 0 ≤ 255
unfolding turned_byte
tile-small t p h = rw (tile-at t p h) (byte_le (λ i. bit_of (get_or t i 0) p) (λ i. bit_le (get_or t i 0) p))

-- ---- n tiles

tiles-rest : (n : ℕ) (l : List ℕ) (p : ℕ) → 8 * n ≤ p → get_or (turned_tiles n l) p 0 ≡ get_or l p 0
unfolding turned_tiles
tiles-rest zero l p h = refl
tiles-rest (suc n) l p h =
    later (turned_tile (take 8 l)) (turned_tiles n (drop 8 l)) p (length-tile (take 8 l)) (omega arith)
    ∙ tiles-rest n (drop 8 l) (p - 8) (omega arith) ∙ dropped l p (omega arith)

tiles-small : (n : ℕ) (l : List ℕ) (p : ℕ) → p < 8 * n → get_or (turned_tiles n l) p 0 ≤ 255
unfolding turned_tiles
tiles-small zero l p h = absurd (omega arith)
tiles-small (suc n) l p h = go (dec_le 8 p) (tiles-small n (drop 8 l) (p - 8)) where
  go : Dec (8 ≤ p) → (p - 8 < 8 * n → get_or (turned_tiles n (drop 8 l)) (p - 8) 0 ≤ 255)
      → get_or (turned_tile (take 8 l) ++ turned_tiles n (drop 8 l)) p 0 ≤ 255
  go (yes g) r = rw (later (turned_tile (take 8 l)) (turned_tiles n (drop 8 l)) p (length-tile (take 8 l)) g) (r (omega arith))
  go (no g) r =
      let g : p < 8 = omega arith in
      rw (first (turned_tile (take 8 l)) (turned_tiles n (drop 8 l)) p (length-tile (take 8 l)) g) (tile-small (take 8 l) p g)

tiles-bit : (n : ℕ) (l : List ℕ) (k i j : ℕ) → k < n → i < 8 → j < 8
    → bit_of (get_or (turned_tiles n l) (8 * k + j) 0) i ≡ bit_of (get_or l (8 * k + i) 0) j
unfolding turned_tiles
tiles-bit zero l k i j h hi hj = absurd (omega arith)
tiles-bit (suc n) l zero i j h hi hj =
    let z : 8 * 0 + j ≡ j = omega arith in
    let o : 8 * 0 + i ≡ i = omega arith in
    ap (λ (p : ℕ). bit_of (get_or (turned_tiles (suc n) l) p 0) i) z
    ∙ ap (λ (b : ℕ). bit_of b i) (first (turned_tile (take 8 l)) (turned_tiles n (drop 8 l)) j (length-tile (take 8 l)) hj)
    ∙ tile-bit (take 8 l) i j hi hj
    ∙ ap (λ (b : ℕ). bit_of b j) (get_or-take 8 l i 0 hi ∙ ap (λ (p : ℕ). get_or l p 0) (sym o))
tiles-bit (suc n) l (suc k) i j h hi hj =
    let z : 8 * suc k + j - 8 ≡ 8 * k + j = omega arith in
    let o : 8 * k + i ≡ 8 * suc k + i - 8 = omega arith in
    ap (λ (b : ℕ). bit_of b i)
    (later (turned_tile (take 8 l)) (turned_tiles n (drop 8 l)) (8 * suc k + j) (length-tile (take 8 l)) (omega arith)
    ∙ ap (λ (p : ℕ). get_or (turned_tiles n (drop 8 l)) p 0) z)
    ∙ tiles-bit n (drop 8 l) k i j (omega arith) hi hj
    ∙ ap (λ (b : ℕ). bit_of b j) (ap (λ (p : ℕ). get_or (drop 8 l) p 0) o ∙ dropped l (8 * suc k + i) (omega arith))

-- ---- the list

pub size-stays : (l : List ℕ) → length (turned l) ≡ length l
unfolding turned
size-stays l = length-tiles (length l / 8) l (omega arith)

pub turned-twice : Twice
unfolding Twice turned
turned-twice l b =
    ap (λ (n : ℕ). turned_tiles (n / 8) (turned l)) (size-stays l) ∙ tiles-twice (length l / 8) l (omega arith) b

pub turned-turns : TurnedTurns
unfolding TurnedTurns turned
turned-turns l =
    record {
      size = size-stays l;
      bits = λ k i j h hi hj. tiles-bit (length l / 8) l k i j h hi hj;
      small = λ p h. tiles-small (length l / 8) l p h;
      rest = λ p h. tiles-rest (length l / 8) l p h;
    }

same_byte : (a b : ℕ) → a ≤ 255 → b ≤ 255 → ((i : ℕ) → i < 8 → bit_of a i ≡ bit_of b i) → a ≡ b
same_byte a b ha hb s = sym (byte-made a ha) ∙ byte-same (bit_of a) (bit_of b) s ∙ byte-made b hb

same-turned : (l m n : List ℕ) → Turns l m → Turns l n → m ≡ n
same-turned l m n tm tn = ext_get_or 0 m n (tm.size ∙ sym tn.size) (λ p h. go p (dec_le (8 * (length l / 8)) p)) where
  go : (p : ℕ) → Dec (8 * (length l / 8) ≤ p) → get_or m p 0 ≡ get_or n p 0
  go p (yes h) = tm.rest p h ∙ sym (tn.rest p h)
  go p (no h) = let g : p < 8 * (length l / 8) = omega arith in
      same_byte (get_or m p 0) (get_or n p 0) (tm.small p g) (tn.small p g)
      (λ i hi. let e : p ≡ 8 * (p / 8) + p % 8 = omega arith in
      ap (λ (q : ℕ). bit_of (get_or m q 0) i) e
      ∙ tm.bits (p / 8) i (p % 8) (omega arith) hi (omega arith)
      ∙ sym (tn.bits (p / 8) i (p % 8) (omega arith) hi (omega arith))
      ∙ ap (λ (q : ℕ). bit_of (get_or n q 0) i) (sym e))

pub only-turned : OnlyTurned
unfolding OnlyTurned TurnedTurns
only-turned l m t = same-turned l m (turned l) t (turned-turns l)
