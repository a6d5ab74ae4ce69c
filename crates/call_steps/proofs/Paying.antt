-- The fee on the slices: what the code's two ways out leave, and what they are in the rules.
use Prim.Native.Nat.{ℕ, ◌+◌, ◌-◌, ◌≤◌}
use mathlib.Core.Path.{◌≡◌, refl}
use mathlib.Core.Bool.{true, false}
use mathlib.Core.List.{List}
use native.Mathlib.Omega.{arith}
use lib.Dec.{ltb}
use lib.ListN.{get_or, set}
use lib.Seq.{get_or-set_other}
use borrow.Author.Tests.{ltb-false}
use Rattle.rules.specs.Limit as Limit
use Rattle.layout.specs.Layout as Layout
use Rattle.call_steps.specs.Paying.{terminated_bytes, paid_words, Pays}

-- the house has no cell among the cash
pub house-apart : (w : List ℕ) (me v : ℕ) → get_or (set w (Layout.CASH + me) v) Layout.HOUSE 0 ≡ get_or w Layout.HOUSE 0
house-apart w me v = get_or-set_other w (Layout.CASH + me) Layout.HOUSE v 0 (λ e. omega arith)

module _ (b w : List ℕ) (me fee : ℕ) where
  pub pays-not : ltb (get_or w (Layout.CASH + me) 0) fee ≡ true → Pays b w me fee false (terminated_bytes b me) w
  pays-not h = record { enough = rw h; bytes = refl; words = refl }

  -- the cash has enough, and `left` is what the fee leaves of it
  module _ (left : ℕ) (e : left ≡ get_or w (Layout.CASH + me) 0 - fee)
      (h : ltb (get_or w (Layout.CASH + me) 0) fee ≡ false) where
    abbrev spent : List ℕ
    spent = set w (Layout.CASH + me) left

    pub house-room : get_or w (Layout.CASH + me) 0 + get_or w Layout.HOUSE 0 ≤ Limit.word
        → get_or spent Layout.HOUSE 0 + fee ≤ Limit.word
    house-room room =
        let enough : fee ≤ get_or w (Layout.CASH + me) 0 = ltb-false _ _ h in
        let apart : get_or spent Layout.HOUSE 0 ≡ get_or w Layout.HOUSE 0 = house-apart w me left in
        omega arith

    pub pays : Pays b w me fee true b (set spent Layout.HOUSE (get_or spent Layout.HOUSE 0 + fee))
    unfolding paid_words
    pays = record { enough = rw h; bytes = refl; words = rw (house-apart, e) }
