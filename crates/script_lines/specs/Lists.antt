-- Numbers gathered at the front of a slice; what the cells after them hold is open.
use Rattle.std.specs.Prelude.{ℕ, ◌≤◌, ◌≡◌, true, List, length, take, drop}
use Rattle.rules.specs.Rights.{op}
use Rattle.rules.specs.Script.{nth, are_bytes, line_fits}

-- ns stand there, and r is how many they are
pub record Front (ns out : List ℕ) (r : ℕ) : Type 0 where
  pub is : take r out ≡ ns
  pub within : r ≤ length out

-- ---- what the code asks

-- the bytes from place `from` on, and a slice that they fit
pub record BytesFrom (l : List ℕ) (from : ℕ) (text : List ℕ) : Type 0 where
  pub bytes : are_bytes (drop from l) ≡ true
  pub low : from ≤ length l
  pub room : length l ≤ length text

-- a line that fits, and a slice that its bytes fit
pub record LineAsks (l text : List ℕ) : Type 0 where
  pub fits : line_fits (op (nth l 0)) l ≡ true
  pub room : length l ≤ length text
