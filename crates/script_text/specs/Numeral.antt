-- 01: "decimal numbers up to 4,294,967,295, no leading zeros, single spaces between". One definition for what is read
-- and for what is written.
use Rattle.std.specs.Prelude.{ℕ, zero, suc, ◌+◌, ◌/◌, ◌%◌, ◌≤◌, ◌≡◌, true, false, List, [], ◌∷◌, ◌++◌, ltb, length, get_or}
use Rattle.rules.specs.Limit as Limit

-- the digits of n, the most significant first; no number has more digits than f, if it is at most f
unfoldable pub numeral_in : ℕ → ℕ → List ℕ
numeral_in zero n = (48 + n) ∷ []
numeral_in (suc f) n = elim (ltb n 10) [
  | true ↦ (48 + n) ∷ []
  | false ↦ numeral_in f (n / 10) ++ ((48 + n % 10) ∷ [])
]

-- "decimal numbers .. no leading zeros", in ASCII
unfoldable pub numeral : ℕ → List ℕ
numeral n = numeral_in n n

-- numbers, each with a space before it
unfoldable pub after : List ℕ → List ℕ
after [] = []
after (n ∷ ns) = 32 ∷ numeral n ++ after ns

-- "single spaces between"
unfoldable pub spaced : List ℕ → List ℕ
spaced [] = []
spaced (n ∷ ns) = numeral n ++ after ns

-- a line of numbers with its end
unfoldable pub line_of : List ℕ → List ℕ
line_of ns = spaced ns ++ (10 ∷ [])

-- a line, without its end, that says the numbers; one that says none is bad
pub record Says (line ns : List ℕ) : Type 0 where
  pub text : line ≡ spaced ns
  pub some : 1 ≤ length ns
  pub fits : (k : ℕ) → get_or ns k 0 ≤ Limit.word

-- a theorem that computes with numerals says `unfolding` and this name
unfoldable pub computes : Unit {0}
unfolding numeral_in numeral after spaced line_of
computes = tt
