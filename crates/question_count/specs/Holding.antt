-- What the program counts: the capabilities of an object, by its slot, that are not expired and hold a right.
use Rattle.std.specs.Prelude.{ℕ, Bool, not, ◌&&◌, eqb}
use Rattle.rules.specs.Limit as Limit
use Rattle.rules.specs.Slots.{count_over}
use Rattle.rules.specs.Store.{State, cap_lives}
use Rattle.rules.specs.Rights.{has}
use Rattle.rules.specs.Refusals.{expired}

-- slot i holds a capability of the object in slot o, and it is not expired and holds the right
unfoldable pub holds : State → ℕ → ℕ → ℕ → Bool
holds s o right i = cap_lives s i && eqb (s.cap i).object o && (not (expired s i) && has (s.cap i).rights right)

unfoldable pub holding_at : State → ℕ → ℕ → ℕ
holding_at s o right = count_over Limit.caps (holds s o right)
