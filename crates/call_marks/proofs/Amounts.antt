-- Stores to the words of a process: its cash, and the two words of its lockword. The view has that alone changed.
use Prim.Native.Nat.{ℕ, ◌+◌, ◌-◌, ◌≤◌, ◌<◌}
use mathlib.Core.Path.{◌≡◌, refl, ap, ◌∙◌}
use mathlib.Core.List.{List}
use native.Mathlib.Omega.{arith}
use lib.ListN.{length, length-set, get_or, set}
use lib.Seq.{get_or-set_other}
use Rattle.rules.specs.Slots.{at}
use Rattle.rules.specs.Store.{Lockword}
use Rattle.rules.specs.Update.{with_lock, with_cash}
use Rattle.rules.specs.Changes.{earn, spend}
use Rattle.rules.proofs.Slots.{at_here, at-else}
use Rattle.layout.specs.Layout as Layout
use Rattle.layout.specs.Rows.{cash_of, lock1_of, lock2_of, sum_of, p1_of, p2_of, money_of, start_of, end_of}
use Rattle.layout.specs.View.{view}
use Rattle.layout.proofs.Field.{at-is, field-other, field-same}
use Rattle.layout.proofs.Shown.{lock-here, cash-here}
use Rattle.layout.proofs.Frame.{state-is, house-same, day-same, object-same, bytes_same, lock-same, lock-same-at, cash-same}
use Rattle.layout.proofs.Frame.{cash-same-at, marks-same, box-same, cap-same, money-same}
use Rattle.call_steps.specs.Run.{Process}
use Rattle.call_steps.proofs.Process.{is-process}
use Rattle.call_marks.specs.Runs.{spent_words, earned_words}

-- ---- words that differ in cash and lockwords alone

record Aside (w w' : List ℕ) : Type 0 where
  house : get_or w' Layout.HOUSE 0 ≡ get_or w Layout.HOUSE 0
  sum : sum_of w' ≡ sum_of w
  p1 : p1_of w' ≡ p1_of w
  p2 : p2_of w' ≡ p2_of w
  money : money_of w' ≡ money_of w
  start : start_of w' ≡ start_of w
  end : end_of w' ≡ end_of w

aside : {w w' : List ℕ} → Aside w w' → (c v : ℕ) → Layout.CASH ≤ c → c < Layout.SUM → Aside w (set w' c v)
aside {w} {w'} A c v low high = record {
  house = get_or-set_other w' c Layout.HOUSE v 0 (omega arith) ∙ A.house;
  sum = field-other 259 Layout.SUM w' c v (λ i p q. omega arith) ∙ A.sum;
  p1 = field-other 512 Layout.P1 w' c v (λ i p q. omega arith) ∙ A.p1;
  p2 = field-other 512 Layout.P2 w' c v (λ i p q. omega arith) ∙ A.p2;
  money = field-other 512 Layout.MONEY w' c v (λ i p q. omega arith) ∙ A.money;
  start = field-other 512 Layout.START w' c v (λ i p q. omega arith) ∙ A.start;
  end = field-other 512 Layout.END w' c v (λ i p q. omega arith) ∙ A.end;
}

as_it_was : (w : List ℕ) → Aside w w
as_it_was w = record { house = refl; sum = refl; p1 = refl; p2 = refl; money = refl; start = refl; end = refl }

all-but-purses : (b l : List ℕ) {w w' : List ℕ} → Aside w w' → (f : ℕ → ℕ) (g : ℕ → Lockword)
    → (view b l w').cash ≡ f → (view b l w').lock ≡ g → view b l w' ≡ with_lock (with_cash (view b l w) f) g
unfolding with_lock with_cash
all-but-purses b l {w} {w'} A f g e d =
    state-is (view b l w') (with_lock (with_cash (view b l w) f) g)
    (house-same b l w b l w' A.house)
    (day-same b l w b l w' refl)
    (object-same b l w b l w' refl refl refl refl refl)
    (bytes_same b l w b l w' refl refl refl refl refl)
    d
    e
    (marks-same b l w b l w' refl refl refl refl refl)
    (box-same b l w b l w' refl refl refl refl A.sum refl)
    (cap-same b l w b l w' refl refl A.p1 A.p2 A.start A.end refl refl)
    (money-same b l w b l w' refl A.money)

-- ---- of a process

module _ {b l : List ℕ} {o : ℕ} (P : Process b l o) (w : List ℕ) (z : length w ≡ Layout.WORDS) where
  cash-stored : (v : ℕ) → view b l (set w (Layout.CASH + o) v) ≡ with_cash (view b l w) (at (view b l w).cash o v)
  unfolding with_lock with_cash
  cash-stored v =
      let w' : List ℕ = set w (Layout.CASH + o) v in
      let row : cash_of w' ≡ at (cash_of w) o v = field-same 64 Layout.CASH w o v P.high (omega arith) P.low in
      all-but-purses b l (aside (as_it_was w) (Layout.CASH + o) v (omega arith) (omega (arith, P.high))) _ _
      (at-is (view b l w).cash (view b l w').cash o v
      (cash-here b l w' o (is-process P) ∙ (λ i. row i o) ∙ at_here (cash_of w) o v)
      (λ j ne. cash-same-at b l w b l w' j refl refl ((λ i. row i j) ∙ at-else (cash_of w) o v j ne)))
      (lock-same b l w b l w' refl refl
      (field-other 64 Layout.LOCK1 w (Layout.CASH + o) v (λ i p q. omega (arith, P.high)))
      (field-other 64 Layout.LOCK2 w (Layout.CASH + o) v (λ i p q. omega (arith, P.high))))

  pub spent-stored : (n : ℕ) → view b l (spent_words w o n) ≡ spend (view b l w) o n
  unfolding spend
  spent-stored n = rw (cash-here b l w o (is-process P)) (cash-stored (cash_of w o - n))

  pub earned-stored : (n : ℕ) → view b l (earned_words w o n) ≡ earn (view b l w) o n
  unfolding earn
  earned-stored n = rw (cash-here b l w o (is-process P)) (cash-stored (cash_of w o + n))

  pub lock-stored : (u v : ℕ) → view b l (set (set w (Layout.LOCK1 + o) u) (Layout.LOCK2 + o) v)
      ≡ with_lock (view b l w) (at (view b l w).lock o (record { first = u; second = v }))
  unfolding with_lock with_cash
  lock-stored u v =
      let w₁ : List ℕ = set w (Layout.LOCK1 + o) u in
      let w' : List ℕ = set w₁ (Layout.LOCK2 + o) v in
      let first : lock1_of w' ≡ at (lock1_of w) o u =
      field-other 64 Layout.LOCK1 w₁ (Layout.LOCK2 + o) v (λ i p q. omega (arith, P.low))
      ∙ field-same 64 Layout.LOCK1 w o u P.high (omega arith) P.low in
      let second : lock2_of w' ≡ at (lock2_of w) o v =
      field-same 64 Layout.LOCK2 w₁ o v P.high (simp length-set (omega arith)) P.low
      ∙ ap (λ f. at f o v) (field-other 64 Layout.LOCK2 w (Layout.LOCK1 + o) u (λ i p q. omega (arith, P.high))) in
      all-but-purses b l
      (aside (aside (as_it_was w) (Layout.LOCK1 + o) u (omega arith) (omega (arith, P.high)))
      (Layout.LOCK2 + o) v (omega arith) (omega (arith, P.high))) _ _
      (cash-same b l w b l w' refl refl
      (field-other 64 Layout.CASH w₁ (Layout.LOCK2 + o) v (λ i p q. omega arith)
      ∙ field-other 64 Layout.CASH w (Layout.LOCK1 + o) u (λ i p q. omega (arith, P.low))))
      (at-is (view b l w).lock (view b l w').lock o _
      (lock-here b l w' o (is-process P)
      ∙ rw (first, second, at_here (lock1_of w) o u, at_here (lock2_of w) o v))
      (λ j ne. lock-same-at b l w b l w' j refl refl
      ((λ i. first i j) ∙ at-else (lock1_of w) o u j ne)
      ((λ i. second i j) ∙ at-else (lock2_of w) o v j ne)))
