-- 02, CR 5, "Patterns by hook.": a pattern in "8 by 8 bit tiles, 8 bytes each", and the same pattern turned.
use Rattle.std.specs.Prelude.{ℕ, zero, suc, ◌+◌, ◌*◌, ◌/◌, ◌%◌, ◌^◌, List, [], ◌∷◌, ◌++◌, length, get_or, take, drop}

-- bit j of n, "bits counted from the lowest"
abbrev pub bit_of : ℕ → ℕ → ℕ
bit_of n j = n / 2 ^ j % 2

-- the byte whose bit i is f i
unfoldable pub byte_of : (ℕ → ℕ) → ℕ
byte_of f = f 0 + 2 * f 1 + 4 * f 2 + 8 * f 3 + 16 * f 4 + 32 * f 5 + 64 * f 6 + 128 * f 7

-- "bit j of byte i becomes bit i of byte j": byte j of the tile t turned
unfoldable pub turned_byte : List ℕ → ℕ → ℕ
turned_byte t j = byte_of (λ i. bit_of (get_or t i 0) j)

unfoldable pub turned_tile : List ℕ → List ℕ
turned_tile t =
    turned_byte t 0 ∷ turned_byte t 1 ∷ turned_byte t 2 ∷ turned_byte t 3
    ∷ turned_byte t 4 ∷ turned_byte t 5 ∷ turned_byte t 6 ∷ turned_byte t 7 ∷ []

-- the first n tiles turned, the rest as it is
unfoldable pub turned_tiles : ℕ → List ℕ → List ℕ
turned_tiles zero l = l
turned_tiles (suc n) l = turned_tile (take 8 l) ++ turned_tiles n (drop 8 l)

-- every whole tile turned: "Data whose length is not a multiple of 8 keeps its last, incomplete tile unturned."
unfoldable pub turned : List ℕ → List ℕ
turned l = turned_tiles (length l / 8) l

-- the first n bytes turned, the rest as it is
unfoldable pub turned_front : ℕ → List ℕ → List ℕ
turned_front n l = turned (take n l) ++ drop n l

-- a theorem that computes with this file's definitions says `unfolding` and this name
unfoldable pub computes : Unit {0}
unfolding byte_of turned_byte turned_tile turned_tiles turned turned_front
computes = tt
