-- 01: "lines .. ended by byte 10, which is not counted. The last line may lack its end; nothing after a last byte 10 is
-- no line."
use Rattle.std.specs.Prelude.{ℕ, ◌+◌, ◌-◌, ◌≤◌, ◌<◌, ◌≡◌, true, false, List, [], ◌∷◌, eqb, take, drop}

-- "lines of at most 2,048 bytes"
abbrev pub longest : ℕ
longest = 2048

-- no line has more numbers: each has a digit, and a byte after it but for the last
abbrev pub most_numbers : ℕ
most_numbers = 1024

-- a byte in front of the first line
unfoldable pub joined : ℕ → List (List ℕ) → List (List ℕ)
joined b [] = (b ∷ []) ∷ []
joined b (l ∷ ls) = (b ∷ l) ∷ ls

-- the lines of a script, without their ends
unfoldable pub lines_of : List ℕ → List (List ℕ)
lines_of [] = []
lines_of (b ∷ s) = elim (eqb b 10) [ true ↦ [] ∷ lines_of s | false ↦ joined b (lines_of s) ]

-- the cells from place `from` on, and before place `to`
abbrev pub part : ℕ → ℕ → List ℕ → List ℕ
part from to l = take (to - from) (drop from l)

-- place r ends the first line of a part: a byte 10 stands there, or the part is over
pub record EndsLine (l : List ℕ) (from to r : ℕ) : Type 0 where
  pub low : from ≤ r
  pub high : r ≤ to
  pub ended : r < to → lines_of (part from to l) ≡ part from r l ∷ lines_of (part (r + 1) to l)
  pub last : r ≡ to → from < to → lines_of (part from to l) ≡ part from to l ∷ []

-- a theorem that computes with lines says `unfolding` and this name
unfoldable pub computes : Unit {0}
unfolding joined lines_of
computes = tt
