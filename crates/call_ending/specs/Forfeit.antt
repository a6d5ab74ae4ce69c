-- 01, "its moneyword, cash and box sums go to the house": what the end of an object brings, exactly.
use Rattle.std.specs.Prelude.{ℕ, ◌+◌, ◌*◌, ◌≤◌, ◌≡◌, ◌≢◌, true, false, List, length, get_or, set}
use Rattle.rules.specs.Limit as Limit
use Rattle.layout.specs.Layout as Layout
use Rattle.layout.specs.Rows.{flag_of, count_of, cash_of, money_of}
use Rattle.layout.specs.View.{is_set}
use Rattle.layout.specs.Sums.{sums_from}
use Rattle.call_steps.specs.Tests.{ObjectSlot, CapSlot}

-- cash and box sums of the object in slot o; a data object has none
unfoldable pub holdings : List ℕ → List ℕ → ℕ → ℕ
holdings b w o = elim (is_set (flag_of b o)) [
  | true ↦ cash_of w o + sums_from w (count_of b o) (o * Limit.box)
  | false ↦ 0
]

-- with the moneyword of its master m
unfoldable pub forfeited : List ℕ → List ℕ → ℕ → ℕ → ℕ
forfeited b w o m = money_of w m + holdings b w o

-- the words with that in the house
unfoldable pub ended_words : List ℕ → List ℕ → ℕ → ℕ → List ℕ
ended_words b w o m = set w Layout.HOUSE (get_or w Layout.HOUSE 0 + forfeited b w o m)

-- ---- what the code asks

pub record HoldsAsk (b w : List ℕ) (o : ℕ) : Type 0 where
  pub bytes : length b ≡ Layout.BYTES
  pub words : length w ≡ Layout.WORDS
  pub slot : ObjectSlot o
  -- a box has at most 4 messages
  pub count : flag_of b o ≢ 0 → count_of b o ≤ Limit.box
  pub fits : holdings b w o ≤ Limit.word

pub record ForfeitAsks (b w : List ℕ) (o m : ℕ) : Type 0 where
  pub bytes : length b ≡ Layout.BYTES
  pub words : length w ≡ Layout.WORDS
  pub slot : ObjectSlot o
  pub cap : CapSlot m
  pub count : flag_of b o ≢ 0 → count_of b o ≤ Limit.box
  -- the house has room for it
  pub fits : get_or w Layout.HOUSE 0 + forfeited b w o m ≤ Limit.word
