-- 01's script and what it writes, in bytes.
use Rattle.std.specs.Prelude.{ℕ, suc, List, [], ◌∷◌, ◌++◌}
use Rattle.rules.specs.Script.{Example, example}
use Rattle.script_text.specs.Numeral.{after, line_of}

-- line one is supply, p1, p2
unfoldable pub lines_in : Example → List (List ℕ)
lines_in e = (e.supply ∷ e.p1 ∷ e.p2 ∷ []) ∷ e.lines

-- lines of numbers, one after another
unfoldable pub text_of : List (List ℕ) → List ℕ
text_of [] = []
text_of (l ∷ ls) = line_of l ++ text_of ls

-- each with its number before it, the first with k
unfoldable pub numbered : ℕ → List (List ℕ) → List (List ℕ)
numbered k [] = []
numbered k (l ∷ ls) = (k ∷ l) ∷ numbered (suc k) ls

-- the script of 01
unfoldable pub example_script : List ℕ
example_script = text_of (lines_in example)

-- what 01 says that it writes; byte 84 is `T`
unfoldable pub example_text : List ℕ
example_text = text_of (numbered 1 example.answers) ++ (84 ∷ []) ++ after example.totals ++ (10 ∷ [])

-- a theorem that computes with these says `unfolding` and this name
unfoldable pub computes : Unit {0}
unfolding lines_in text_of numbered example_script example_text
computes = tt
