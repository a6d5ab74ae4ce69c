-- Which refusal stops call 17, by what the code found.
use Prim.Native.Nat.{ℕ, ◌≤◌, ◌<◌}
use mathlib.Core.Path.{◌≡◌}
use mathlib.Core.List.{List}
use lib.ListN.{get_or}
use borrow.Author.Tests.{lt-ltb, le-ltb}
use Rattle.rules.specs.Code as Code
use Rattle.rules.specs.Limit as Limit
use Rattle.rules.specs.Refusals.{◌when◌, first}
use Rattle.rules.specs.Rule.{day_refuses}
use Rattle.layout.specs.Layout as Layout
use Rattle.layout.specs.View.{view}

module _ (b l w : List ℕ) (day : ℕ) where
  pub day-high : Limit.day < day → first (day_refuses (view b l w) day) ≡ Code.out_of_range
  unfolding day_refuses first ◌when◌
  day-high h = rw (lt-ltb Limit.day day h)

  module _ (low : day ≤ Limit.day) where
    pub day-before : day < get_or l Layout.DAY 0 → first (day_refuses (view b l w) day) ≡ Code.earlier_day
    unfolding day_refuses first ◌when◌ view
    day-before h = rw (le-ltb Limit.day day low, lt-ltb day (get_or l Layout.DAY 0) h)

    pub day-goes : get_or l Layout.DAY 0 ≤ day → first (day_refuses (view b l w) day) ≡ Code.done
    unfolding day_refuses first ◌when◌ view
    day-goes h = rw (le-ltb Limit.day day low, le-ltb day (get_or l Layout.DAY 0) h)
