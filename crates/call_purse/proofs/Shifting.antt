-- 01, "The climb takes the sum from each", in the view after a call's stores: each moneyword on the climb from k has
-- gone through f, and the caller has the cash v. The slots that k descends from are those of the climb by the links.
use Prim.Native.Nat.{ℕ}
use mathlib.Core.Path.{◌≡◌, refl, sym, ap, ◌∙◌, fun_ext}
use mathlib.Core.Logic.{◌≢◌}
use mathlib.Core.Bool.{Bool, true, false}
use mathlib.Core.List.{List}
use Rattle.rules.specs.Slots.{at, mem}
use Rattle.rules.specs.Store.{descends}
use Rattle.rules.specs.Update.{with_cash, with_money}
use Rattle.rules.specs.Changes.{on_climb}
use Rattle.rules.proofs.Tests.{by-eq}
use Rattle.rules.proofs.Forest.{descends-lives}
use Rattle.layout.specs.Layout as Layout
use Rattle.layout.specs.Rows.{owner_of, cash_of}
use Rattle.layout.specs.View.{view}
use Rattle.layout.specs.WellFormed.{Plain}
use Rattle.rules.proofs.Slots.{at_here, at-else}
use Rattle.layout.proofs.Field.{at-is}
use Rattle.layout.proofs.Shown.{cash-here, cap-shown, cap-object, money-here, money-none}
use Rattle.layout.proofs.Frame.{state-is, lock-same, cash-same-at, box-same, cap-same}
use Rattle.call_steps.specs.Run.{Process, Held}
use Rattle.call_steps.proofs.Process.{is-process}
use Rattle.call_purse.specs.Climb.{climb_of}
use Rattle.call_purse.proofs.Storing.{Changed}
use Rattle.call_purse.proofs.Reaching.{path-is}

module _ (b l w : List ℕ) (g : Plain b l w) (me k : ℕ) (caller : Process b l me) (held : Held l k)
    (f : ℕ → ℕ) (v : ℕ) (after : List ℕ) (t : Changed f (climb_of l k) me v w after) where
  -- the slots that k descends from are those of the climb
  descends-is : (i : ℕ) → descends (view b l w) k i ≡ mem i (climb_of l k)
  unfolding descends
  descends-is i = ap (mem i) (path-is b l w g k held)

  cash-is : (view b l after).cash ≡ at (view b l w).cash me v
  cash-is =
      let runs = is-process caller in
      at-is (view b l w).cash (view b l after).cash me v
      (cash-here b l after me runs ∙ (λ d. t.cash d me) ∙ at_here (cash_of w) me v)
      (λ j n. cash-same-at b l w b l after j refl refl ((λ d. t.cash d j) ∙ at-else (cash_of w) me v j n))

  -- a living one is as its cell, a free one is on no climb
  money-lives : (i : ℕ) → owner_of l i ≢ 0 → (d : Bool) → mem i (climb_of l k) ≡ d
      → (view b l after).money i ≡ elim d [ true ↦ f ((view b l w).money i) | false ↦ (view b l w).money i ]
  money-lives i h d e =
      let same = sym (money-here b l w i h) in
      money-here b l after i h ∙ t.money i ∙ (λ x. elim (e x) [ true ↦ f (same x) | false ↦ same x ])

  money-free : (i : ℕ) → owner_of l i ≡ 0 → (d : Bool) → mem i (climb_of l k) ≡ d
      → (view b l after).money i ≡ elim d [ true ↦ f ((view b l w).money i) | false ↦ (view b l w).money i ]
  money-free i z true e = absurd (descends-lives (view b l w) g.valid.formed.caps k i
      (cap-shown b l w k held.live) (descends-is i ∙ e) (cap-object b l w i ∙ z))
  money-free i z false e = money-none b l after i z ∙ sym (money-none b l w i z)

  money-is : (i : ℕ) → (view b l after).money i ≡ (on_climb (view b l w) k f).money i
  unfolding on_climb with_money
  money-is i = by-eq (owner_of l i) 0
      (λ z. money-free i z (descends (view b l w) k i) (sym (descends-is i)))
      (λ h. money-lives i h (descends (view b l w) k i) (sym (descends-is i)))

  pub view-after : view b l after ≡ with_cash (on_climb (view b l w) k f) (at (view b l w).cash me v)
  unfolding on_climb with_money with_cash view
  view-after = state-is (view b l after) (with_cash (on_climb (view b l w) k f) (at (view b l w).cash me v))
      t.house
      refl
      refl
      refl
      (lock-same b l w b l after refl refl (t.row 64 Layout.LOCK1 refl refl) (t.row 64 Layout.LOCK2 refl refl))
      cash-is
      refl
      (box-same b l w b l after refl refl refl refl (t.row 259 Layout.SUM refl refl) refl)
      (cap-same b l w b l after refl refl (t.row 512 Layout.P1 refl refl) (t.row 512 Layout.P2 refl refl)
      (t.row 512 Layout.START refl refl) (t.row 512 Layout.END refl refl) refl refl)
      (fun_ext money-is)
