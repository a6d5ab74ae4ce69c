-- The own part of each call, exactly: its refusals by tests on the cells, and what it does by stores to them. The
-- slices are those that the fee left; `me` is the caller's slot, `k` that of the capability presented.
use Rattle.std.specs.Prelude.{ℕ, ◌+◌, ◌-◌, ◌≤◌, ◌≡◌, ◌≢◌, true, false, not, ◌||◌, List, [], ◌∷◌, eqb, ltb, length, set}
use Rattle.std.specs.Int.Bits.{bit_xor}
use Rattle.rules.specs.Code as Code
use Rattle.rules.specs.Limit as Limit
use Rattle.rules.specs.Store.{Lockword}
use Rattle.rules.specs.Call.{tells}
use Rattle.rules.specs.Refusals.{◌when◌, first}
use Rattle.layout.specs.Layout as Layout
use Rattle.layout.specs.Rows.{flag_of, terminated_of, count_of, owner_of, cash_of, lock1_of, lock2_of}
use Rattle.layout.specs.Rows.{money_of, start_of, end_of}
use Rattle.layout.specs.View.{is_set, view}
use Rattle.layout.specs.WellFormed.{Sized}
use Rattle.call_steps.specs.Tests.{ObjectSlot}
use Rattle.call_steps.specs.Run.{Target, Ran, over, settled}

-- ---- runs

-- a window's length and a moneyword, and nothing changed
unfoldable pub told : ℕ → ℕ → List ℕ → List ℕ → List ℕ → Ran
told length moneyword b l w = record {
  answer = (tells length moneyword (view b l w)).answer;
  bytes = b;
  links = l;
  words = w;
}

-- ---- suspend, resume, apply_lock: 8 not a process

unfoldable pub process_stop : List ℕ → List ℕ → ℕ → ℕ
process_stop b l k = first (Code.not_process when not (is_set (flag_of b (owner_of l k))) ∷ [])

-- the mark is 1 for suspend, 0 for resume
unfoldable pub suspended_run : List ℕ → List ℕ → List ℕ → ℕ → ℕ → Ran
suspended_run b l w k mark =
    settled (process_stop b l k) b l w (over Code.done (set b (Layout.SUSPENDED + owner_of l k) mark) l w)

abbrev pub locked_words : List ℕ → ℕ → Lockword → List ℕ
locked_words w o x = set
    (set w (Layout.LOCK1 + o) (bit_xor (lock1_of w o) x.first))
    (Layout.LOCK2 + o) (bit_xor (lock2_of w o) x.second)

unfoldable pub lock_run : List ℕ → List ℕ → List ℕ → ℕ → Lockword → Ran
lock_run b l w k x = settled (process_stop b l k) b l w (over Code.done b l (locked_words w (owner_of l k) x))

-- ---- wait: the mark, where the box is empty

abbrev pub wait_bytes : List ℕ → ℕ → List ℕ
wait_bytes b me = elim (eqb (count_of b me) 0) [ true ↦ set b (Layout.WAITING + me) 1 | false ↦ b ]

unfoldable pub wait_run : List ℕ → List ℕ → List ℕ → ℕ → Ran
wait_run b l w me = over Code.done (wait_bytes b me) l w

-- ---- revive: 8; 16 not terminated, or sum 0; 9 the caller's cash is below the sum

unfoldable pub revive_stop : List ℕ → List ℕ → List ℕ → ℕ → ℕ → ℕ → ℕ
revive_stop b l w me k sum = first
    (Code.not_process when not (is_set (flag_of b (owner_of l k)))
    ∷ Code.not_revivable when (not (is_set (terminated_of b (owner_of l k))) || eqb sum 0)
    ∷ Code.too_little when ltb (cash_of w me) sum
    ∷ [])

abbrev pub spent_words : List ℕ → ℕ → ℕ → List ℕ
spent_words w i n = set w (Layout.CASH + i) (cash_of w i - n)

abbrev pub earned_words : List ℕ → ℕ → ℕ → List ℕ
earned_words w i n = set w (Layout.CASH + i) (cash_of w i + n)

unfoldable pub moved_words : List ℕ → ℕ → ℕ → ℕ → List ℕ
moved_words w me o sum = earned_words (spent_words w me sum) o sum

unfoldable pub revive_run : List ℕ → List ℕ → List ℕ → ℕ → ℕ → ℕ → Ran
revive_run b l w me k sum = settled (revive_stop b l w me k sum) b l w
    (over Code.done (set b (Layout.TERMINATED + owner_of l k) 0) l (moved_words w me (owner_of l k) sum))

-- ---- cap_info: window length and moneyword

unfoldable pub info_run : List ℕ → List ℕ → List ℕ → ℕ → Ran
info_run b l w k = told (end_of w k - start_of w k) (money_of w k) b l w

-- ---- what the code asks

-- suspend, resume
pub record MarkAsks (b l : List ℕ) (k : ℕ) : Type 0 where
  pub bytes : length b ≡ Layout.BYTES
  pub links : length l ≡ Layout.LINKS
  pub target : Target l k

pub record LockAsks (b l w : List ℕ) (k : ℕ) : Type 0 where
  pub sized : Sized b l w
  pub target : Target l k

-- the cash at slot o has room for the sum once it is taken from that at slot me
abbrev pub Room : List ℕ → ℕ → ℕ → ℕ → Type 0
Room w me o sum = cash_of (spent_words w me sum) o + sum ≤ Limit.word

-- so it is where the target is a process and the caller has the sum
abbrev pub Affords : List ℕ → List ℕ → List ℕ → ℕ → ℕ → ℕ → Type 0
Affords b l w me k sum = flag_of b (owner_of l k) ≢ 0 → sum ≤ cash_of w me → Room w me (owner_of l k) sum

pub record ReviveAsks (b l w : List ℕ) (me k sum : ℕ) : Type 0 where
  pub sized : Sized b l w
  pub caller : ObjectSlot me
  pub target : Target l k
  pub affords : Affords b l w me k sum

-- cap_info
pub record InfoAsks (w : List ℕ) (k : ℕ) : Type 0 where
  pub words : length w ≡ Layout.WORDS
  pub low : 1 ≤ k
  pub high : k ≤ Limit.caps
  pub ordered : start_of w k ≤ end_of w k
