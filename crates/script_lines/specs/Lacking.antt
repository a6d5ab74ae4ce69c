-- A line that may lack its last day, or its limit and its last day.
use Rattle.std.specs.Prelude.{ℕ, Bool, true, false, List}
use Rattle.rules.specs.Rights.{Op}
use Rattle.rules.specs.Script.{lacks, number_at}

-- how many of them it lacks
unfoldable pub lacking : Op → List ℕ → ℕ
lacking o l = elim (lacks 1 o l) [
  | true ↦ 1
  | false ↦ elim (lacks 2 o l) [ true ↦ 2 | false ↦ 0 ]
]

-- the number in one of them, whose place in a whole line is p
unfoldable pub number_or : Bool → ℕ → List ℕ → ℕ → ℕ
number_or true default l p = default
number_or false default l p = number_at l p
