-- The forfeit is what the rules say: moneyword, cash and box sums. The house has room for it.
use Prim.Native.Nat.{ℕ, ◌+◌, ◌*◌, ◌≤◌}
use mathlib.Core.Path.{◌≡◌, refl, ◌∙◌}
use mathlib.Core.Logic.{◌≢◌}
use mathlib.Core.Bool.{true, false}
use mathlib.Core.List.{List}
use native.Mathlib.Omega.{arith}
use lib.Dec.{eqb}
use lib.ListN.{get_or}
use borrow.Author.Tests.{eq-eqb}
use Rattle.rules.specs.Store.{State, sums_in, money_in, all_cash, all_masters, all_boxes}
use Rattle.rules.proofs.Tests.{by-eq, pick_yes, pick-not}
use Rattle.layout.specs.Layout as Layout
use Rattle.layout.specs.Rows.{flag_of, count_of, length_of, text_in, master_of, owner_of, parent_of}
use Rattle.layout.specs.View.{is_set, view}
use Rattle.layout.proofs.Field.{field-low, field-high}
use Rattle.layout.proofs.Linking.{sum_one}
use Rattle.layout.proofs.Summing.{sums-are}
use Rattle.layout.proofs.Shown.{set-yes, set-no, process-yes, data-no, cash-here, cash-none, box-here, box-none}
use Rattle.layout.proofs.Shown.{money-here, parent_is}
use Rattle.call_ending.specs.Forfeit.{holdings, forfeited}

-- the object in slot o lives, and capability m is a master
module _ (b l w : List ℕ) (o m : ℕ) (object : master_of l o ≢ 0) (cap : owner_of l m ≢ 0) where
  abbrev s : State
  s = view b l w

  holdings-are : holdings b w o ≡ s.cash o + sums_in (s.box o)
  unfolding holdings sums_in
  holdings-are = by-eq (flag_of b o) 0
      (λ z.
      let p = data-no (master_of l) (flag_of b) o z in
      pick-not (is_set (flag_of b o)) _ 0 (set-no (flag_of b o) z)
      ∙ rw (cash-none b l w o p, box-none b l w o p) refl)
      (λ nz.
      let p = process-yes (master_of l) (flag_of b) o object nz in
      pick_yes (is_set (flag_of b o)) _ 0 (set-yes (flag_of b o) nz)
      ∙ rw (cash-here b l w o p, box-here b l w o p, sums-are w (length_of b) (text_in b) (count_of b o) (o * 4)) refl)

  -- 01, "its moneyword, cash and box sums"
  pub forfeited-is : forfeited b w o m ≡ s.money m + s.cash o + sums_in (s.box o)
  unfolding forfeited
  forfeited-is = omega (arith, holdings-are, money-here b l w m cap)

  pub forfeit-fits : parent_of l m ≡ 0 → money_in s ≤ 4294967295
      → get_or w Layout.HOUSE 0 + forfeited b w o m ≤ 4294967295
  unfolding money_in all_cash all_masters all_boxes view
  forfeit-fits top total =
      let mine : elim (eqb (s.cap m).parent 0) [ true ↦ s.money m | false ↦ 0 ] ≡ s.money m =
      pick_yes (eqb (s.cap m).parent 0) (s.money m) 0 (eq-eqb _ 0 (parent_is b l w m cap ∙ top)) in
      omega (
        arith,
        total,
        forfeited-is,
        mine,
        sum_one 64 (λ i. s.cash i) o (field-low 64 Layout.MASTER l o object) (field-high 64 Layout.MASTER l o object),
        sum_one 512 (λ i. elim (eqb (s.cap i).parent 0) [ true ↦ s.money i | false ↦ 0 ]) m
            (field-low 512 Layout.OWNER l m cap) (field-high 512 Layout.OWNER l m cap),
        sum_one 64 (λ i. sums_in (s.box i)) o (field-low 64 Layout.MASTER l o object)
            (field-high 64 Layout.MASTER l o object),
      )
