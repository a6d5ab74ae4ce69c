-- The sums of messages by their slots, and sums with a bound.
use Rattle.std.specs.Prelude.{ℕ, zero, suc, ◌+◌, ◌≤◌, ◌≡◌, List}
use Rattle.layout.specs.Rows.{sum_of}

-- the sums of n messages from slot i on
unfoldable pub sums_from : List ℕ → ℕ → ℕ → ℕ
sums_from w zero i = 0
sums_from w (suc n) i = sum_of w i + sums_from w n (suc i)

-- r is the sum, and is at most `most`: no amount is above 4,294,967,295, so that the next can be added
pub record Amount (most sum r : ℕ) : Type 0 where
  pub is : r ≡ sum
  pub small : r ≤ most
