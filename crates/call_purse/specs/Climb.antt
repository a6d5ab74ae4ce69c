-- 01, "the climb": the slots from a capability to its master by the parent links, when the climb ends, and what the
-- moneywords on it say to a sum and become.
use Rattle.std.specs.Prelude.{ℕ, ◌+◌, ◌-◌, ◌≡◌, Bool, List, [], ◌∷◌, ltb, length, set}
use Rattle.rules.specs.Limit as Limit
use Rattle.rules.specs.Slots.{any, climb}
use Rattle.layout.specs.Layout as Layout
use Rattle.layout.specs.Rows.{parent_of, money_of}
use Rattle.layout.specs.Shape.{Chain}
use Rattle.call_purse.specs.declared.way.Way.{Way}
use Rattle.call_purse.specs.declared.way.Way.TheVariants.{Out, Into}

-- from k up to its master
abbrev pub climb_of : List ℕ → ℕ → List ℕ
climb_of l k = climb Limit.caps (parent_of l) k

-- it ends within 512 steps, each slot of it one of 1 to 512; the slices have their lengths
pub record Climbable (l w : List ℕ) (k : ℕ) : Type 0 where
  pub links : length l ≡ Layout.LINKS
  pub words : length w ≡ Layout.WORDS
  pub ends : Chain Limit.caps (parent_of l) k (climb_of l k)

-- ---- a moneyword m and a sum that goes out of it or into it

-- it is below the sum, or would pass 4,294,967,295
unfoldable pub stops : Way → ℕ → ℕ → Bool
stops Out sum m = ltb m sum
stops Into sum m = ltb Limit.word (m + sum)

unfoldable pub moves : Way → ℕ → ℕ → ℕ
moves Out sum m = m - sum
moves Into sum m = m + sum

-- ---- all on the climb from k

-- some moneyword stops the sum
unfoldable pub climb_stops : Way → List ℕ → List ℕ → ℕ → ℕ → Bool
climb_stops way l w k sum = any (λ i. stops way sum (money_of w i)) (climb_of l k)

-- the moneywords of these slots go through f
unfoldable pub through : (ℕ → ℕ) → List ℕ → List ℕ → List ℕ
through f [] w = w
through f (i ∷ xs) w = set (through f xs w) (Layout.MONEY + i) (f (money_of w i))

-- the words where the sum has gone
unfoldable pub climb_moved : Way → List ℕ → List ℕ → ℕ → ℕ → List ℕ
climb_moved way l w k sum = through (moves way sum) (climb_of l k) w
