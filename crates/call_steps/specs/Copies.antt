-- Stores to a list in their order, and cells copied from one list to another.
use Rattle.std.specs.Prelude.{ℕ, zero, suc, ◌+◌, ◌≡◌, List, get_or, set}

-- n stores to a list: of value i to place i, for each i below n, in order
unfoldable pub laid : (place value : ℕ → ℕ) → ℕ → List ℕ → List ℕ
laid place value zero xs = xs
laid place value (suc n) xs = set (laid place value n xs) (place n) (value n)

-- n cells of src, from place `from` on, stored to dst, from place `to` on
unfoldable pub copied : ℕ → List ℕ → ℕ → List ℕ → ℕ → List ℕ
copied n src from dst to = laid (λ i. to + i) (λ i. get_or src (from + i) 0) n dst

-- that is what dst' is
pub record Copied (n : ℕ) (src : List ℕ) (from : ℕ) (dst : List ℕ) (to : ℕ) (dst' : List ℕ) : Type 0 where
  pub is : dst' ≡ copied n src from dst to
