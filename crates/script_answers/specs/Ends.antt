-- The last line of the output: 01, "Last `T` with cash, masters' moneywords, box sums, house".
use Rattle.std.specs.Prelude.{ℕ, ◌+◌, ◌≤◌, List, [], ◌∷◌, ◌++◌, length}
use Rattle.rules.specs.Store.{State}
use Rattle.rules.specs.Script.{totals}
use Rattle.layout.specs.WellFormed.{Sized}
use Rattle.layout.specs.Fields.{TotalFits}
use Rattle.script_text.specs.Numeral.{after}
use Rattle.script_answers.specs.Room.{TOTALS}

-- byte 84 is `T`
unfoldable pub totals_line : State → List ℕ
totals_line s = (84 ∷ []) ++ after (totals s) ++ (10 ∷ [])

-- what the code asks: a store whose money total fits, and room
pub record TotalsAsk (b l w : List ℕ) (at : ℕ) (out : List ℕ) : Type 0 where
  pub sized : Sized b l w
  pub total : TotalFits b l w
  pub room : at + TOTALS ≤ length out
