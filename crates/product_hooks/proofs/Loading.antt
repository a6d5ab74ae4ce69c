-- A tile in a word: loaded, turned and stored.
use Prim.Native.Nat.{ℕ, zero, suc, ◌+◌, ◌*◌, ◌-◌, ◌/◌, ◌%◌, ◌^◌, ◌≤◌, ◌<◌}
use mathlib.Core.Path.{◌≡◌, refl, sym, ap, ◌∙◌, subst}
use mathlib.Core.List.{List, [], ◌∷◌, ◌++◌}
use native.Mathlib.Nat.{add-zero, add_comm}
use native.Mathlib.Omega.{arith}
use native.Mathlib.Decide.{dec_le}
use lib.ListN.{length, get_or, take, drop, set}
use lib.Seq.{ext_get_or, get_or-take, get_or-drop, sets, sets-eq}
use lib.Bits.{bit_or, or_shifted_r}
use lib.Pow.{shr-shr}
use Rattle.product_hooks.specs.Turned.{bit_of, turned_byte, turned_tile}
use Rattle.product_hooks.specs.Tile.{turned_at, bytes_of, Holds, Across}
use Rattle.product_hooks.proofs.Byte.{below-eight, byte-made, byte-same}
use Rattle.product_hooks.proofs.Tiles.{length-tile, tile-at}

-- ---- load

-- four bytes in a word, and each again out of it
four : (a b c d : ℕ) → a ≤ 255 → b ≤ 255 → c ≤ 255 → d ≤ 255
    → let n : ℕ = a + b * 256 + c * 65536 + d * 16777216 in
    (n / 1 % 256 ≡ a) × (n / 256 % 256 ≡ b) × (n / 65536 % 256 ≡ c) × (n / 16777216 % 256 ≡ d)
four a b c d la lb lc ld = (omega arith, omega arith, omega arith, omega arith)

below-four : (P : ℕ → Type 0) → P 0 → P 1 → P 2 → P 3 → (i : ℕ) → i < 4 → P i
below-four P a b c d zero h = a
below-four P a b c d (suc zero) h = b
below-four P a b c d (suc (suc zero)) h = c
below-four P a b c d (suc (suc (suc zero))) h = d
below-four P a b c d (suc (suc (suc (suc i)))) h = absurd (omega arith)

-- b is the byte of l at p
abbrev IsByte : List ℕ → ℕ → ℕ → Type 0
IsByte l p b = (b ≡ get_or l p 0) × (b ≤ 255)

-- x is the four bytes of l from p on
abbrev Half : List ℕ → ℕ → ℕ → Type 0
Half l p x = (x < 2 ^ 32) × ((i : ℕ) → i < 4 → x / 2 ^ (8 * i) % 256 ≡ get_or l (p + i) 0)

half_is : (l : List ℕ) (p a b c d : ℕ)
    → a ≡ get_or l p 0 → b ≡ get_or l (p + 1) 0 → c ≡ get_or l (p + 2) 0 → d ≡ get_or l (p + 3) 0
    → a ≤ 255 → b ≤ 255 → c ≤ 255 → d ≤ 255
    → Half l p (a + b * 256 + c * 65536 + d * 16777216)
half_is l p a b c d ia ib ic id la lb lc ld =
    let z = four a b c d la lb lc ld in (
      omega arith,
      below-four (λ (i : ℕ). (a + b * 256 + c * 65536 + d * 16777216) / 2 ^ (8 * i) % 256 ≡ get_or l (p + i) 0)
          (z.0 ∙ ia ∙ ap (λ (n : ℕ). get_or l n 0) (sym (add-zero p))) (z.1 ∙ ib) (z.2 ∙ ic) (z.3 ∙ id),
    )

halves-low : (x y i : ℕ) → x < 2 ^ 32 → i < 4 → (x + y * 4294967296) / 2 ^ (8 * i) % 256 ≡ x / 2 ^ (8 * i) % 256
halves-low x y i h = below-four (λ (i : ℕ). (x + y * 4294967296) / 2 ^ (8 * i) % 256 ≡ x / 2 ^ (8 * i) % 256)
    (omega arith) (omega arith) (omega arith) (omega arith) i

halves-high : (x y i : ℕ) → x < 2 ^ 32 → i < 4 → (x + y * 4294967296) / 2 ^ (8 * (4 + i)) % 256 ≡ y / 2 ^ (8 * i) % 256
halves-high x y i h = below-four (λ (i : ℕ). (x + y * 4294967296) / 2 ^ (8 * (4 + i)) % 256 ≡ y / 2 ^ (8 * i) % 256)
    (omega arith) (omega arith) (omega arith) (omega arith) i

halves : (l : List ℕ) (p x y : ℕ) → Half l p x → Half l (p + 4) y → Holds l p (x + y * 4294967296)
halves l p x y hx hy i h = go (dec_le 4 i) where
  go : Dec (4 ≤ i) → (x + y * 4294967296) / 2 ^ (8 * i) % 256 ≡ get_or l (p + i) 0
  go (yes g) = let e : 4 + (i - 4) ≡ i = omega arith in let f : p + 4 + (i - 4) ≡ p + i = omega arith in
      ap (λ (i : ℕ). (x + y * 4294967296) / 2 ^ (8 * i) % 256) (sym e)
      ∙ halves-high x y (i - 4) hx.0 (omega arith) ∙ hy.1 (i - 4) (omega arith) ∙ ap (λ (n : ℕ). get_or l n 0) f
  go (no g) = halves-low x y i hx.0 (omega arith) ∙ hx.1 i (omega arith)

-- b above x
above : (k x b : ℕ) → x < 2 ^ k → bit_or x (b * 2 ^ k) ≡ x + b * 2 ^ k
above k x b h = or_shifted_r b k x h ∙ add_comm (b * 2 ^ k) x

joined : (a b c d e f g h : ℕ) → a ≤ 255 → b ≤ 255 → c ≤ 255 → d ≤ 255 → e ≤ 255 → f ≤ 255 → g ≤ 255
    → bit_or (bit_or (bit_or (bit_or (bit_or (bit_or (bit_or a (b * 256)) (c * 65536)) (d * 16777216)) (e * 4294967296))
    (f * 1099511627776)) (g * 281474976710656)) (h * 72057594037927936)
    ≡ a + b * 256 + c * 65536 + d * 16777216 + (e + f * 256 + g * 65536 + h * 16777216) * 4294967296
joined a b c d e f g h la lb lc ld le lf lg =
    let x₂ : ℕ = a + b * 256 in
    let x₃ : ℕ = x₂ + c * 65536 in
    let x₄ : ℕ = x₃ + d * 16777216 in
    let x₅ : ℕ = x₄ + e * 4294967296 in
    let x₆ : ℕ = x₅ + f * 1099511627776 in
    let x₇ : ℕ = x₆ + g * 281474976710656 in
    let z₂ : bit_or a (b * 256) ≡ x₂ = above 8 a b (omega arith) in
    let z₃ : bit_or x₂ (c * 65536) ≡ x₃ = above 16 x₂ c (omega arith) in
    let z₄ : bit_or x₃ (d * 16777216) ≡ x₄ = above 24 x₃ d (omega arith) in
    let z₅ : bit_or x₄ (e * 4294967296) ≡ x₅ = above 32 x₄ e (omega arith) in
    let z₆ : bit_or x₅ (f * 1099511627776) ≡ x₆ = above 40 x₅ f (omega arith) in
    let z₇ : bit_or x₆ (g * 281474976710656) ≡ x₇ = above 48 x₆ g (omega arith) in
    let z₈ : bit_or x₇ (h * 72057594037927936) ≡ x₇ + h * 72057594037927936 = above 56 x₇ h (omega arith) in
    rw (z₂, z₃, z₄, z₅, z₆, z₇, z₈) (omega arith)

pub loaded : (l : List ℕ) (p a b c d e f g h : ℕ)
    → IsByte l p a → IsByte l (p + 1) b → IsByte l (p + 2) c → IsByte l (p + 3) d
    → IsByte l (p + 4) e → IsByte l (p + 5) f → IsByte l (p + 6) g → IsByte l (p + 7) h
    → Holds l p (bit_or (bit_or (bit_or (bit_or (bit_or (bit_or (bit_or a (b * 256)) (c * 65536)) (d * 16777216)) (e * 4294967296))
    (f * 1099511627776)) (g * 281474976710656)) (h * 72057594037927936))
loaded l p a b c d e f g h ia ib ic id ie if ig ih =
    let low = half_is l p a b c d ia.0 ib.0 ic.0 id.0 ia.1 ib.1 ic.1 id.1 in
    let high = half_is l (p + 4) e f g h ie.0 (if.0 ∙ on 1 (omega arith)) (ig.0 ∙ on 2 (omega arith)) (ih.0 ∙ on 3 (omega arith))
    ie.1 if.1 ig.1 ih.1 in
    subst (Holds l p) (sym (joined a b c d e f g h ia.1 ib.1 ic.1 id.1 ie.1 if.1 ig.1))
    (halves l p _ _ low high)
  where
    on : (i : ℕ) {j : ℕ} → j ≡ p + 4 + i → get_or l j 0 ≡ get_or l (p + 4 + i) 0
    on i e = ap (λ n. get_or l n 0) e

-- ---- store

pub stored : (l : List ℕ) (p a b c d e f g h : ℕ)
    → set (set (set (set (set (set (set (set l p a) (p + 1) b) (p + 2) c) (p + 3) d) (p + 4) e) (p + 5) f) (p + 6) g) (p + 7) h
    ≡ sets l p (a ∷ b ∷ c ∷ d ∷ e ∷ f ∷ g ∷ h ∷ [])
stored l p a b c d e f g h =
    let z₁ : p + 1 ≡ suc p = omega arith in
    let z₂ : p + 2 ≡ suc (suc p) = omega arith in
    let z₃ : p + 3 ≡ suc (suc (suc p)) = omega arith in
    let z₄ : p + 4 ≡ suc (suc (suc (suc p))) = omega arith in
    let z₅ : p + 5 ≡ suc (suc (suc (suc (suc p)))) = omega arith in
    let z₆ : p + 6 ≡ suc (suc (suc (suc (suc (suc p))))) = omega arith in
    let z₇ : p + 7 ≡ suc (suc (suc (suc (suc (suc (suc p)))))) = omega arith in
    rw (z₁, z₂, z₃, z₄, z₅, z₆, z₇)

-- ---- turn

low_bit : (n j : ℕ) → j < 8 → bit_of (n % 256) j ≡ bit_of n j
low_bit n j h =
    below-eight (λ (j : ℕ). bit_of (n % 256) j ≡ bit_of n j)
    (omega arith) (omega arith) (omega arith) (omega arith) (omega arith) (omega arith) (omega arith) (omega arith) j h

-- bit j of byte i of a word
word-bit : (n i j : ℕ) → j < 8 → bit_of (n / 2 ^ (8 * i) % 256) j ≡ bit_of n (8 * i + j)
word-bit n i j h = low_bit (n / 2 ^ (8 * i)) j h ∙ ap (λ (m : ℕ). m % 2) (shr-shr n (8 * i) j)

bytes-at : (n i : ℕ) → i < 8 → get_or (bytes_of n) i 0 ≡ n / 2 ^ (8 * i) % 256
unfolding bytes_of
bytes-at n i h =
    below-eight (λ (i : ℕ). get_or (bytes_of n) i 0 ≡ n / 2 ^ (8 * i) % 256)
    (omega arith) refl refl refl refl refl refl refl i h

length-bytes : (n : ℕ) → length (bytes_of n) ≡ 8
unfolding bytes_of
length-bytes n = refl

tile-of : (l : List ℕ) (p j : ℕ) → j < 8 → get_or (take 8 (drop p l)) j 0 ≡ get_or l (p + j) 0
tile-of l p j h = get_or-take 8 (drop p l) j 0 h ∙ get_or-drop p l j 0

word-turned : (l : List ℕ) (p x r : ℕ) → Holds l p x → Across x r → bytes_of r ≡ turned_tile (take 8 (drop p l))
unfolding turned_byte
word-turned l p x r holds across =
    ext_get_or 0 (bytes_of r) (turned_tile (take 8 (drop p l))) (length-bytes r ∙ sym (length-tile (take 8 (drop p l))))
    (λ i h. let h : i < 8 = omega (arith, length-bytes r) in
    bytes-at r i h
    ∙ sym (byte-made (r / 2 ^ (8 * i) % 256) (omega arith))
    ∙ byte-same (bit_of (r / 2 ^ (8 * i) % 256)) (λ j. bit_of (get_or (take 8 (drop p l)) j 0) i)
    (λ j k. word-bit r i j k ∙ across i j h k ∙ sym (word-bit x j i h)
    ∙ ap (λ (n : ℕ). bit_of n i) (holds j k ∙ sym (tile-of l p j k)))
    ∙ sym (tile-at (take 8 (drop p l)) i h))

pub turned-in : (l : List ℕ) (p x r : ℕ) → p + 8 ≤ length l → Holds l p x → Across x r → sets l p (bytes_of r) ≡ turned_at p l
unfolding bytes_of turned_at
turned-in l p x r fits holds across =
    sets-eq (bytes_of r) l p fits ∙ ap (λ (t : List ℕ). take p l ++ t ++ drop (p + 8) l) (word-turned l p x r holds across)
