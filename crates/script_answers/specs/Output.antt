-- What a script writes, byte by byte: 01, "A script and its output".
use Rattle.std.specs.Prelude.{ℕ, suc, ◌≡◌, true, false, List, [], ◌∷◌, ◌++◌, eqb, length}
use Rattle.rules.specs.Code as Code
use Rattle.rules.specs.Store.{State, fresh}
use Rattle.rules.specs.Rights.{op}
use Rattle.rules.specs.Call.{Outcome}
use Rattle.rules.specs.Script.{nth, answer_of, line_rule}
use Rattle.script_text.specs.Numeral.{line_of}
use Rattle.script_text.specs.Lines.{lines_of}
use Rattle.script_text.specs.Scan.{Means}
use Rattle.script_answers.specs.Ends.{totals_line}

-- the answers to lines with these numbers, counted from k, and last the totals
unfoldable pub transcript : ℕ → State → List (List ℕ) → List ℕ
transcript k s [] = totals_line s
transcript k s (l ∷ ls) =
    let r : Outcome = line_rule s l in
    line_of (k ∷ answer_of (op (nth l 0)) r.answer) ++ transcript (suc k) r.after ls

-- "Line one is supply, p1, p2; if bad or absent, `0 2` is all it writes."
unfoldable pub output : List (List ℕ) → List ℕ
output [] = line_of (0 ∷ Code.out_of_range ∷ [])
output (l ∷ ls) = elim (eqb (length l) 3) [
  | true ↦ transcript 1 (fresh (nth l 0) (record { p1 = nth l 1; p2 = nth l 2 })) ls
  | false ↦ line_of (0 ∷ Code.out_of_range ∷ [])
]

-- the lines have these numbers, line by line
pub data MeanAll : List (List ℕ) → List (List ℕ) → Type 0 where
  none : MeanAll [] []
  more : {line ns : List ℕ} {lines nss : List (List ℕ)} → Means line ns → MeanAll lines nss
      → MeanAll (line ∷ lines) (ns ∷ nss)

-- the script writes the text
pub record Writes (script text : List ℕ) : Type 0 where
  pub numbers : List (List ℕ)
  pub means : MeanAll (lines_of script) numbers
  pub is : text ≡ output numbers

-- a theorem that computes with these says `unfolding` and this name
unfoldable pub computes : Unit {0}
unfolding totals_line transcript output
computes = tt
