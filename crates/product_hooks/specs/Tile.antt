-- A tile in a word: what the functions under `turn` say.
use Rattle.std.specs.Prelude.{ℕ, ◌+◌, ◌*◌, ◌/◌, ◌%◌, ◌^◌, ◌<◌, ◌≡◌, List, [], ◌∷◌, ◌++◌, get_or, take, drop}
use Rattle.product_hooks.specs.Turned.{bit_of, turned_tile}

-- a tile in one number, byte i in the bits from 8 * i on: r is x turned
abbrev pub Across : ℕ → ℕ → Type 0
Across x r = (i j : ℕ) → i < 8 → j < 8 → bit_of r (8 * i + j) ≡ bit_of x (8 * j + i)

-- the tile from index p on turned, the rest as it is
unfoldable pub turned_at : ℕ → List ℕ → List ℕ
turned_at p l = take p l ++ turned_tile (take 8 (drop p l)) ++ drop (p + 8) l

-- x holds the tile of l from index p on
abbrev pub Holds : List ℕ → ℕ → ℕ → Type 0
Holds l p x = (i : ℕ) → i < 8 → x / 2 ^ (8 * i) % 256 ≡ get_or l (p + i) 0

-- the tile that x holds
unfoldable pub bytes_of : ℕ → List ℕ
bytes_of x =
    x % 256 ∷ x / 256 % 256 ∷ x / 65536 % 256 ∷ x / 16777216 % 256 ∷ x / 4294967296 % 256
    ∷ x / 1099511627776 % 256 ∷ x / 281474976710656 % 256 ∷ x / 72057594037927936 % 256 ∷ []
