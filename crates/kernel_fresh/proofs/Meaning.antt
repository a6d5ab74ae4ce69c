-- The fresh slices mean the rules' fresh store.
use Prim.Native.Nat.{ℕ}
use mathlib.Core.Path.{◌≡◌, refl, sym, ◌∙◌}
use mathlib.Core.Logic.{◌≢◌}
use mathlib.Core.Bool.{Bool, true, false}
use mathlib.Core.List.{[]}
use Rattle.rules.specs.Limit as Limit
use Rattle.rules.specs.Slots.{at}
use Rattle.rules.specs.Store.{Password, State, no_object, no_lockword, no_marks, no_cap, no_window, fresh}
use Rattle.layout.specs.View.{is_set, is_process, only_where, view}
use Rattle.layout.specs.View as View
use Rattle.kernel_fresh.specs.Slices.{fresh_bytes, fresh_links, fresh_words}
use Rattle.rules.proofs.Slots.{at-else}
use Rattle.layout.proofs.Field.{at-is}
use Rattle.kernel_fresh.proofs.Rows.{none, only, master, flag, owner}
use Rattle.kernel_fresh.proofs.Rows.{flag-row, volume-row, suspended-row, waiting-row, terminated-row, count-row}
use Rattle.kernel_fresh.proofs.Rows.{master-row, serial-row, size-row, owner-row, parent_row, rights-row}
use Rattle.kernel_fresh.proofs.Rows.{last-day-row, day-cell}
use Rattle.kernel_fresh.proofs.Rows.{house-cell, cash-row, lock1-row, lock2-row}
use Rattle.kernel_fresh.proofs.Rows.{p1-row, p2-row, money-row, start-row, end_row}

-- ---- one slot that passes a test

only_at : {A : Type 0} (test : ℕ → Bool) (none : A) (f : ℕ → A) (i : ℕ)
    → test i ≡ true → ((j : ℕ) → j ≢ i → test j ≡ false)
    → only_where test none f ≡ at (λ j. none) i (f i)
unfolding only_where
only_at test none f i here else =
    at-is (λ j. none) (only_where test none f) i (f i) (rw (here, only_where)) (λ j n. rw (else j n, only_where))

-- and what it has is what the others have
only_same : {A : Type 0} (test : ℕ → Bool) (none : A) (f : ℕ → A) (i : ℕ)
    → test i ≡ true → ((j : ℕ) → j ≢ i → test j ≡ false) → f i ≡ none
    → only_where test none f ≡ (λ j. none)
only_same test none f i here else same =
    only_at test none f i here else ∙ sym (at-is (λ j. none) (λ j. none) i (f i) (sym same) (λ j n. refl))

-- only slot k is set, and only the last object is a process
unset : (k v j : ℕ) → j ≢ k → is_set (only k v j) ≡ false
unfolding is_set
unset k v j n = rw (at-else none k v j n)

idle : (j : ℕ) → j ≢ Limit.objects → is_process master flag j ≡ false
unfolding is_process is_set
idle j n = rw (at-else none Limit.objects Limit.caps j n)

-- ---- the parts

module _ (supply : ℕ) (p : Password) where
  abbrev S : State
  S = view fresh_bytes fresh_links (fresh_words supply p)

  house : S.house ≡ 0
  unfolding view
  house = house-cell supply p

  day : S.day ≡ 0
  unfolding view
  day = day-cell

  objects : S.object ≡ (fresh supply p).object
  unfolding view View.objects fresh is_set at
  objects =
      rw (master-row, volume-row, serial-row, size-row, flag-row)
      (only_at (λ o. is_set (master o)) no_object _ Limit.objects refl (unset Limit.objects Limit.caps))

  bytes : S.bytes ≡ (λ o. [])
  unfolding view View.bytes is_set at
  bytes =
      rw (master-row, size-row)
      (only_same (λ o. is_set (master o)) [] _ Limit.objects refl (unset Limit.objects Limit.caps) refl)

  lock : S.lock ≡ (λ o. no_lockword)
  unfolding view View.locks is_process is_set at no_lockword
  lock =
      rw (master-row, flag-row, lock1-row supply p, lock2-row supply p)
      (only_same (is_process master flag) no_lockword _ Limit.objects refl idle refl)

  cash : S.cash ≡ at (λ o. 0) Limit.objects supply
  unfolding view View.cash is_process is_set at
  cash = rw (master-row, flag-row, cash-row supply p) (only_at (is_process master flag) 0 _ Limit.objects refl idle)

  marks : S.marks ≡ (λ o. no_marks)
  unfolding view View.marks is_process is_set at no_marks
  marks =
      rw (master-row, flag-row, suspended-row, waiting-row, terminated-row)
      (only_same (is_process master flag) no_marks _ Limit.objects refl idle refl)

  box : S.box ≡ (λ o. [])
  unfolding view View.boxes View.messages is_process is_set at
  box = rw (master-row, flag-row, count-row) (only_same (is_process master flag) [] _ Limit.objects refl idle refl)

  cap : S.cap ≡ (fresh supply p).cap
  unfolding view View.caps fresh is_set at no_window
  cap =
      rw (owner-row, parent_row, p1-row supply p, p2-row supply p, start-row supply p, end_row supply p, rights-row, last-day-row)
      (only_at (λ i. is_set (owner i)) no_cap _ Limit.caps refl (unset Limit.caps Limit.objects))

  money : S.money ≡ (λ i. 0)
  unfolding view View.moneywords is_set at
  money = rw (owner-row, money-row supply p) (only_same (λ i. is_set (owner i)) 0 _ Limit.caps refl (unset Limit.caps Limit.objects) refl)

  -- ---- the store

  pub fresh-means : S ≡ fresh supply p
  unfolding fresh
  fresh-means = λ i. record {
    house = house i;
    day = day i;
    object = objects i;
    bytes = bytes i;
    lock = lock i;
    cash = cash i;
    marks = marks i;
    box = box i;
    cap = cap i;
    money = money i;
  }
