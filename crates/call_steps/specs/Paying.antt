-- Refusal 4 and the fee, on the slices.
use Rattle.std.specs.Prelude.{ℕ, ◌+◌, ◌-◌, ◌≤◌, ◌≡◌, Bool, true, false, not, List, ltb, get_or, set, length}
use Rattle.rules.specs.Limit as Limit
use Rattle.layout.specs.Layout as Layout

-- the process in slot me becomes terminated
unfoldable pub terminated_bytes : List ℕ → ℕ → List ℕ
terminated_bytes b me = set b (Layout.TERMINATED + me) 1

-- the fee goes from the cash of slot me to the house
unfoldable pub paid_words : List ℕ → ℕ → ℕ → List ℕ
paid_words w me fee =
    set (set w (Layout.CASH + me) (get_or w (Layout.CASH + me) 0 - fee)) Layout.HOUSE (get_or w Layout.HOUSE 0 + fee)

pub record CanPay (b w : List ℕ) (me : ℕ) : Type 0 where
  pub bytes : length b ≡ Layout.BYTES
  pub words : length w ≡ Layout.WORDS
  pub low : 1 ≤ me
  pub high : me ≤ Limit.objects
  -- all money fits a word
  pub room : get_or w (Layout.CASH + me) 0 + get_or w Layout.HOUSE 0 ≤ Limit.word

-- r says whether the fee is paid; b' and w' are what is left of the slices b and w
pub record Pays (b w : List ℕ) (me fee : ℕ) (r : Bool) (b' w' : List ℕ) : Type 0 where
  pub enough : r ≡ not (ltb (get_or w (Layout.CASH + me) 0) fee)
  pub bytes : b' ≡ elim r [ true ↦ b | false ↦ terminated_bytes b me ]
  pub words : w' ≡ elim r [ true ↦ paid_words w me fee | false ↦ w ]
