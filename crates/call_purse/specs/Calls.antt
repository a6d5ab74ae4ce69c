-- 01, "withdraw" and "deposit": what each requires of the slices, and its own part exactly.
use Rattle.std.specs.Prelude.{ℕ, ◌+◌, ◌-◌, ◌≤◌, ◌≡◌, false, List, [], ◌∷◌, ltb, set}
use Rattle.rules.specs.Code as Code
use Rattle.rules.specs.Limit as Limit
use Rattle.rules.specs.Refusals.{◌when◌, first}
use Rattle.layout.specs.Layout as Layout
use Rattle.layout.specs.Rows.{cash_of}
use Rattle.call_steps.specs.Run.{Ran, over, settled}
use Rattle.call_purse.specs.declared.way.Way.TheVariants.{Out, Into}
use Rattle.call_purse.specs.Climb.{Climbable, climb_stops, climb_moved}

-- the climb from k ends, and the caller's slot is one of 1 to 64
pub record Payable (l w : List ℕ) (me k : ℕ) : Type 0 where
  pub climb : Climbable l w k
  pub low : 1 ≤ me
  pub high : me ≤ Limit.objects

-- ---- withdraw

-- where it is done the caller's cash has room for the sum
pub record Withdrawable (l w : List ℕ) (me k sum : ℕ) : Type 0 where
  pub payable : Payable l w me k
  pub room : climb_stops Out l w k sum ≡ false → cash_of w me + sum ≤ Limit.word

-- 9: some moneyword from the capability up to its master is below the sum
unfoldable pub withdraw_code : List ℕ → List ℕ → ℕ → ℕ → ℕ
withdraw_code l w k sum = first (Code.too_little when climb_stops Out l w k sum ∷ [])

-- the climb takes the sum from each and adds it once to the caller's cash
unfoldable pub withdrawn : List ℕ → List ℕ → ℕ → ℕ → ℕ → List ℕ
withdrawn l w me k sum = set (climb_moved Out l w k sum) (Layout.CASH + me) (cash_of w me + sum)

unfoldable pub withdraw_run : List ℕ → List ℕ → List ℕ → ℕ → ℕ → ℕ → Ran
withdraw_run b l w me k sum = settled (withdraw_code l w k sum) b l w (over Code.done b l (withdrawn l w me k sum))

-- ---- deposit

-- 9: the caller's cash is below the sum; 10: a moneyword on the climb would pass 4,294,967,295
unfoldable pub deposit_code : List ℕ → List ℕ → ℕ → ℕ → ℕ → ℕ
deposit_code l w me k sum = first
    (Code.too_little when ltb (cash_of w me) sum ∷ Code.overflows when climb_stops Into l w k sum ∷ [])

-- each on the climb grows, and the caller's cash falls
unfoldable pub deposited : List ℕ → List ℕ → ℕ → ℕ → ℕ → List ℕ
deposited l w me k sum = set (climb_moved Into l w k sum) (Layout.CASH + me) (cash_of w me - sum)

unfoldable pub deposit_run : List ℕ → List ℕ → List ℕ → ℕ → ℕ → ℕ → Ran
deposit_run b l w me k sum = settled (deposit_code l w me k sum) b l w (over Code.done b l (deposited l w me k sum))
