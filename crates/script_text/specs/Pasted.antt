-- What is written into a slice.
use Rattle.std.specs.Prelude.{ℕ, ◌+◌, ◌≤◌, ◌≡◌, List, ◌++◌, length, take, drop}

-- `text` in `out` from place `at` on; the cells before and after are as they were
unfoldable pub pasted : List ℕ → ℕ → List ℕ → List ℕ
pasted out at text = take at out ++ text ++ drop (at + length text) out

-- that is what out' is, and r is the place after it
pub record Wrote (out : List ℕ) (at : ℕ) (text out' : List ℕ) (r : ℕ) : Type 0 where
  pub is : out' ≡ pasted out at text
  pub end : r ≡ at + length text

-- and it takes `most` places at most
pub record Put (most : ℕ) (out : List ℕ) (at : ℕ) (text out' : List ℕ) (r : ℕ) : Type 0 where
  pub wrote : Wrote out at text out' r
  pub room : r ≤ at + most
