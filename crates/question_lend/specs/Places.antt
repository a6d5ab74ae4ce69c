-- What the program tests of an entry, where it stands in the list, and which place it finds.
use Rattle.std.specs.Prelude.{ℕ, ◌≤◌, ◌≡◌, Bool, true, ◌&&◌, List, Option, Some, None, eqb}
use Rattle.rules.specs.Code as Code
use Rattle.rules.specs.Limit as Limit
use Rattle.rules.specs.Store.{State}
use Rattle.rules.specs.Rights.{DERIVE_CAP}
use Rattle.rules.specs.Call.{Capability}
use Rattle.rules.specs.Password.{presented}
use Rattle.rules.specs.Refusals.{first, showing}
use Rattle.rules.specs.Questions.{Wish, entries, FirstOf, NoneOf}
use Rattle.rules.specs.Theorems.{lendable}

-- the process in slot me presents e, which 5, 19 and 6 let through, and it has what is wished
unfoldable pub will_do : State → ℕ → Wish → Capability → Bool
will_do s me x e = eqb (first (showing s (presented s me e) DERIVE_CAP)) Code.done && lendable s (presented s me e) x

-- the list, which is not longer than one may be, has an entry at this place
pub record Place (l : List ℕ) (place : ℕ) : Type 0 where
  pub low : 1 ≤ place
  pub high : place ≤ entries l
  pub few : entries l ≤ Limit.entries

-- r is the first place of 1 to n that passes the test, None if none does
abbrev pub Finds : ℕ → (ℕ → Bool) → Option ℕ → Type 0
Finds n t None = NoneOf n (λ place. t place ≡ true)
Finds n t (Some place) = FirstOf n (λ place. t place ≡ true) place
