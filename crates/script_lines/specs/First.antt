-- 01: "Line one is supply, p1, p2".
use Rattle.std.specs.Prelude.{ℕ, ◌≡◌, ◌≢◌, List, [], ◌∷◌, length, Result, Ok, Err}
use Rattle.rules.specs.Script.{nth}
use Rattle.script_lines.specs.declared.first.First.{First}

-- a line of three numbers says this
pub record Says (l : List ℕ) (r : First) : Type 0 where
  pub three : length l ≡ 3
  pub supply : r.supply ≡ nth l 0
  pub password : r.password ≡ nth l 1 ∷ nth l 2 ∷ []

-- any other is bad, and these are its first three, 0 for one that it lacks
pub record Bad (l : List ℕ) (r : First) : Type 0 where
  pub other : length l ≢ 3
  pub supply : r.supply ≡ nth l 0
  pub password : r.password ≡ nth l 1 ∷ nth l 2 ∷ []

abbrev pub FirstIs : List ℕ → Result First First → Type 0
FirstIs l (Ok r) = Says l r
FirstIs l (Err r) = Bad l r
