-- Call 17, exactly: its refusals, and the day stored.
use Rattle.std.specs.Prelude.{ℕ, List, set}
use Rattle.rules.specs.Code as Code
use Rattle.rules.specs.Refusals.{first}
use Rattle.rules.specs.Rule.{day_refuses}
use Rattle.layout.specs.Layout as Layout
use Rattle.layout.specs.View.{view}
use Rattle.call_steps.specs.Run.{Ran, over, settled}

unfoldable pub day_run : List ℕ → List ℕ → List ℕ → ℕ → Ran
day_run b l w day = settled (first (day_refuses (view b l w) day)) b l w (over Code.done b (set l Layout.DAY day) w)
