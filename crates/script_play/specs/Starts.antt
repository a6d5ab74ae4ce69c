-- 01: "Line one is supply, p1, p2".
use Rattle.std.specs.Prelude.{ℕ, ◌≡◌, ◌≢◌, Bool, true, false, List, eqb, length, Option, Some, None}
use Rattle.rules.specs.Store.{Password}
use Rattle.rules.specs.Store as Store
use Rattle.rules.specs.Script.{nth}
use Rattle.layout.specs.View.{view}
use Rattle.layout.specs.WellFormed.{WellFormed}
use Rattle.kernel_fresh.specs.Slices.{fresh_bytes, fresh_links, fresh_words}
use Rattle.script_text.specs.Scan.{Means}
use Rattle.script_lines.specs.declared.first.First.{First}
use Rattle.script_lines.specs.First.{Says}
use Rattle.script_play.specs.Plays.{Unchanged}

abbrev pub password_in : List ℕ → Password
password_in ns = record { p1 = nth ns 1; p2 = nth ns 2 }

-- every cell is that of the fresh store, which is the rules' and well formed
pub record Begun (ns b' l' w' : List ℕ) : Type 0 where
  pub bytes : b' ≡ fresh_bytes
  pub links : l' ≡ fresh_links
  pub words : w' ≡ fresh_words (nth ns 0) (password_in ns)
  pub means : view b' l' w' ≡ Store.fresh (nth ns 0) (password_in ns)
  pub formed : WellFormed b' l' w'

-- a line one of these numbers is good, r, where they are three; a bad one changes no cell
pub record Made (ns b l w b' l' w' : List ℕ) (r : Bool) : Type 0 where
  pub is : r ≡ eqb (length ns) 3
  pub bad : r ≡ false → Unchanged b l w b' l' w'
  pub good : r ≡ true → Begun ns b' l' w'

-- the same of a line as it is written
pub record Starts (line b l w b' l' w' : List ℕ) (r : Bool) : Type 0 where
  pub numbers : List ℕ
  pub line-means : Means line numbers
  pub made : Made numbers b l w b' l' w' r

-- ---- what line one says

pub record OpensWith (line : List ℕ) (r : First) : Type 0 where
  pub numbers : List ℕ
  pub means : Means line numbers
  pub says : Says numbers r

pub record Refused (line : List ℕ) : Type 0 where
  pub numbers : List ℕ
  pub means : Means line numbers
  pub other : length numbers ≢ 3

abbrev pub Opens : List ℕ → Option First → Type 0
Opens line (Some r) = OpensWith line r
Opens line None = Refused line
