-- What the slices mean at one slot, in the amounts of the money total.
use Prim.Native.Nat.{ℕ, ◌+◌, ◌*◌, ◌≤◌}
use mathlib.Core.Path.{◌≡◌, sym, ap, ◌∙◌}
use mathlib.Core.Logic.{◌≢◌}
use mathlib.Core.Bool.{true, false}
use mathlib.Core.List.{List}
use lib.Dec.{leb}
use lib.ListN.{get_or}
use borrow.Author.Tests.{eq-eqb, ne_eqb}
use Rattle.rules.specs.Limit as Limit
use Rattle.rules.specs.Store.{Cap, no_cap, sums_in, all_cash, all_masters, all_boxes, money_in}
use Rattle.layout.specs.Layout as Layout
use Rattle.layout.specs.Rows.{master_of, flag_of, count_of, length_of, text_in, owner_of, parent_of, money_of}
use Rattle.layout.specs.View.{is_process, view}
use Rattle.layout.specs.Sums.{sums_from}
use Rattle.layout.specs.Fields.{TotalFits}
use Rattle.layout.specs.Decides.{Decides}
use Rattle.layout.proofs.Summing.{sums-are}
use Rattle.layout.proofs.Adding.{Added, added-all}
use Rattle.layout.proofs.Shown.{box-here, box-none, cap-none, parent_is, money-here, money-none}
use Rattle.check_money.specs.Amount.{of_master, master_money, MastersAre}
use Rattle.layout.proofs.Deciding.{at_most}

module _ (b l w : List ℕ) (o : ℕ) where
  pub sums-here : (n : ℕ) → n ≡ count_of b o → is_process (master_of l) (flag_of b) o ≡ true
      → sums_from w n (o * 4) ≡ sums_in ((view b l w).box o)
  sums-here n e p =
      rw e (sym (sums-are w (length_of b) (text_in b) (count_of b o) (o * 4)) ∙ ap sums_in (sym (box-here b l w o p)))

  pub sums_none : is_process (master_of l) (flag_of b) o ≡ false → sums_in ((view b l w).box o) ≡ 0
  unfolding sums_in
  sums_none e = ap sums_in (box-none b l w o e)

-- an amount counts where the parent is 0
of-child : (parent amount : ℕ) → parent ≢ 0 → of_master parent amount ≡ 0
unfolding of_master
of-child parent amount h = rw (ne_eqb parent 0 h, of_master)

of-master : (parent amount : ℕ) → parent ≡ 0 → of_master parent amount ≡ amount
unfolding of_master
of-master parent amount e = rw (eq-eqb parent 0 e, of_master)

module _ (b l w : List ℕ) (i : ℕ) where
  pub money-free : owner_of l i ≡ 0 → master_money (view b l w) i ≡ 0
  unfolding no_cap
  money-free e =
      of-master ((view b l w).cap i).parent ((view b l w).money i)
      (ap (λ (c : Cap). c.parent) (cap-none b l w i e))
      ∙ money-none b l w i e

  module _ (lives : owner_of l i ≢ 0) where
    pub money-child : parent_of l i ≢ 0 → master_money (view b l w) i ≡ 0
    money-child p =
        of-child ((view b l w).cap i).parent ((view b l w).money i) (λ z. p (sym (parent_is b l w i lives) ∙ z))

    pub money-master : parent_of l i ≡ 0 → master_money (view b l w) i ≡ money_of w i
    money-master p =
        of-master ((view b l w).cap i).parent ((view b l w).money i) (parent_is b l w i lives ∙ p)
        ∙ money-here b l w i lives

-- ---- the money total, from its four parts

module _ (b l w : List ℕ) (c m x h : ℕ)
    (cash-is : c ≡ all_cash (view b l w))
    (masters-are : m ≡ all_masters (view b l w))
    (boxes-are : x ≡ all_boxes (view b l w))
    (house-is : h ≡ get_or w Layout.HOUSE 0) where
  total-is : c + m + x + h ≡ money_in (view b l w)
  unfolding money_in view
  total-is = rw (cash-is, masters-are, boxes-are, house-is)

  pub total-decided : Decides (TotalFits b l w) (leb (c + m + x + h) 4294967295)
  total-decided = rw total-is (at_most (money_in (view b l w)) 4294967295)

-- ---- a loop that adds up the masters' moneywords

pub masters-added : (b l w : List ℕ) (k total : ℕ) → k ≤ 0
    → Added (master_money (view b l w)) Limit.word Limit.caps k total → MastersAre b l w total
unfolding all_masters of_master
masters-added b l w k total z a = added-all _ _ _ _ _ z a
