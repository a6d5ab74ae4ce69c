-- Every script writes a text.
use Prim.Native.Nat.{ℕ}
use mathlib.Core.Path.{refl}
use mathlib.Core.List.{List, [], ◌∷◌}
use Rattle.script_text.specs.Lines.{lines_of}
use Rattle.script_answers.specs.Output.{output, MeanAll, none, more, Writes}
use Rattle.script_driver.proofs.Having.{line-has}

lines-have : (ls : List (List ℕ)) → (nss : List (List ℕ)) × MeanAll ls nss
lines-have [] = ([], none)
lines-have (l ∷ ls) =
    let a = line-has l in
    let b = lines-have ls in
    (a.0 ∷ b.0, more a.1 b.1)

pub writes-exist : (script : List ℕ) → (text : List ℕ) × Writes script text
writes-exist script =
    let r = lines-have (lines_of script) in
    (output r.0, record { numbers = r.0; means = r.1; is = refl })
