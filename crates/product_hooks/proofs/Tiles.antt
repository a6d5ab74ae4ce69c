-- The first tiles of a list turned: twice, and one tile more.
use Prim.Native.Nat.{ℕ, zero, suc, ◌+◌, ◌*◌, ◌≤◌, ◌<◌}
use mathlib.Core.Path.{◌≡◌, refl, sym, ap, ap₂, ◌∙◌}
use mathlib.Core.List.{List, ◌++◌, append_assoc}
use native.Mathlib.Omega.{arith}
use native.Mathlib.Decide.{dec_le}
use lib.ListN.{get_or-eq_default, length, get_or, take, drop, length-append, length-take, length-drop, take-append-drop}
use lib.Seq.{ext_get_or, take_at, drop_at, take-append-add, drop-append-add, get_or-take, get_or-drop}
use Rattle.product_hooks.specs.Turned.{bit_of, turned_byte, turned_tile, turned_tiles}
use Rattle.product_hooks.specs.Theorems.{Bytes}
use Rattle.product_hooks.specs.Tile.{turned_at}
use Rattle.product_hooks.proofs.Bits.{bit_le}
use Rattle.product_hooks.proofs.Byte.{below-eight, byte-bit, byte-made, byte-same}

-- ---- one tile

pub length-tile : (t : List ℕ) → length (turned_tile t) ≡ 8
unfolding turned_tile
length-tile t = refl

pub tile-at : (t : List ℕ) (j : ℕ) → j < 8 → get_or (turned_tile t) j 0 ≡ turned_byte t j
unfolding turned_tile
tile-at t j h = below-eight (λ (j : ℕ). get_or (turned_tile t) j 0 ≡ turned_byte t j) refl refl refl refl refl refl refl refl j h

-- bit i of byte j of a turned tile is bit j of byte i
pub tile-bit : (t : List ℕ) (i j : ℕ) → i < 8 → j < 8 → bit_of (get_or (turned_tile t) j 0) i ≡ bit_of (get_or t i 0) j
unfolding turned_byte
tile-bit t i j hi hj =
    ap (λ (b : ℕ). bit_of b i) (tile-at t j hj) ∙ byte-bit (λ i. bit_of (get_or t i 0) j) (λ i. bit_le (get_or t i 0) j) i hi

tile-twice : (t : List ℕ) → length t ≡ 8 → Bytes t → turned_tile (turned_tile t) ≡ t
unfolding turned_byte
tile-twice t n b =
    ext_get_or 0 (turned_tile (turned_tile t)) t (length-tile (turned_tile t) ∙ sym n)
    (λ i h. let h : i < 8 = omega (arith, length-tile (turned_tile t)) in
    tile-at (turned_tile t) i h
    ∙ byte-same (λ j. bit_of (get_or (turned_tile t) j 0) i) (bit_of (get_or t i 0)) (λ j l. tile-bit t i j h l)
    ∙ byte-made (get_or t i 0) (b i))

-- ---- lists

pub length-tiles : (n : ℕ) (l : List ℕ) → 8 * n ≤ length l → length (turned_tiles n l) ≡ length l
unfolding turned_tiles
length-tiles zero l h = refl
length-tiles (suc n) l h =
    length-append (turned_tile (take 8 l)) (turned_tiles n (drop 8 l))
    ∙ ap₂ (λ (a b : ℕ). a + b) (length-tile (take 8 l)) (length-tiles n (drop 8 l) (omega (arith, length-drop 8 l)) ∙ length-drop 8 l)
    ∙ omega arith

bytes_take : (n : ℕ) (l : List ℕ) → Bytes l → Bytes (take n l)
bytes_take n l b p = go (dec_le n p) where
  go : Dec (n ≤ p) → get_or (take n l) p 0 ≤ 255
  go (yes h) =
      let e : get_or (take n l) p 0 ≡ 0 = get_or-eq_default (take n l) 0 (omega (arith, length-take n l)) in omega arith
  go (no h) = rw (get_or-take n l p 0 (omega arith)) (b p)

pub tiles-twice : (n : ℕ) (l : List ℕ) → 8 * n ≤ length l → Bytes l → turned_tiles n (turned_tiles n l) ≡ l
unfolding turned_tiles
tiles-twice zero l h b = refl
tiles-twice (suc n) l h b =
    ap₂ (λ (p q : List ℕ). turned_tile p ++ turned_tiles n q)
    (take_at (turned_tile (take 8 l)) (turned_tiles n (drop 8 l)) 8 (length-tile (take 8 l)))
    (drop_at (turned_tile (take 8 l)) (turned_tiles n (drop 8 l)) 8 (length-tile (take 8 l)))
    ∙ ap₂ (λ (p q : List ℕ). p ++ q)
    (tile-twice (take 8 l) (omega (arith, length-take 8 l)) (bytes_take 8 l b))
    (tiles-twice n (drop 8 l) (omega (arith, length-drop 8 l)) (λ p. rw (get_or-drop) (b (8 + p))))
    ∙ take-append-drop 8 l

-- ---- one tile more

at-append : (t l : List ℕ) (p : ℕ) → length t ≡ 8 → turned_at (8 + p) (t ++ l) ≡ t ++ turned_at p l
unfolding turned_at
at-append t l p n =
    let a : take (8 + p) (t ++ l) ≡ t ++ take p l = rw n at (take-append-add t l p) in
    let d : drop (8 + p) (t ++ l) ≡ drop p l = rw n at (drop-append-add t l p) in
    let e : 8 + p + 8 ≡ 8 + (p + 8) = omega arith in
    let f : drop (8 + p + 8) (t ++ l) ≡ drop (p + 8) l = rw e (rw n at (drop-append-add t l (p + 8))) in
    rw (a, d, f) (simp append_assoc)

tile-more : (n : ℕ) (l : List ℕ) → 8 * n ≤ length l → turned_tiles (suc n) l ≡ turned_at (8 * n) (turned_tiles n l)
unfolding turned_tiles turned_at
tile-more zero l h = refl
tile-more (suc n) l h =
    ap (λ (q : List ℕ). turned_tile (take 8 l) ++ q) (tile-more n (drop 8 l) (omega (arith, length-drop 8 l)))
    ∙ sym (at-append (turned_tile (take 8 l)) (turned_tiles n (drop 8 l)) (8 * n) (length-tile (take 8 l)))
    ∙ let e : 8 + 8 * n ≡ 8 * suc n = omega arith in
    ap (λ (p : ℕ). turned_at p (turned_tile (take 8 l) ++ turned_tiles n (drop 8 l))) e

-- ---- a loop that has turned k tiles

pub turned_more : (l m r : List ℕ) (k : ℕ) → 8 * k ≤ length l → m ≡ turned_tiles k l → r ≡ turned_at (k * 8) m → r ≡ turned_tiles (k + 1) l
turned_more l m r k h e f =
    f ∙ let z : k * 8 ≡ 8 * k = omega arith in ap₂ turned_at z e
    ∙ sym (tile-more k l h) ∙ let z : suc k ≡ k + 1 = omega arith in ap (λ (n : ℕ). turned_tiles n l) z
