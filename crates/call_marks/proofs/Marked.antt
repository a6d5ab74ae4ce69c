-- A store to a mark of a process: the view has that mark alone changed, and the cells keep their ranges.
use Prim.Native.Nat.{ℕ, ◌+◌, ◌≤◌, ◌<◌}
use mathlib.Core.Path.{◌≡◌, refl, ◌∙◌}
use mathlib.Core.Logic.{◌≢◌}
use mathlib.Core.Bool.{true}
use mathlib.Core.List.{List}
use native.Mathlib.Omega.{arith}
use lib.ListN.{length, set, length-set}
use Rattle.rules.specs.Slots.{at}
use Rattle.rules.specs.Store.{Marks, State}
use Rattle.rules.specs.Update.{with_marks}
use Rattle.rules.specs.Changes.{set_suspended, set_waiting, set_terminated}
use Rattle.rules.proofs.Slots.{at-by, at_here, at-else}
use Rattle.layout.specs.Layout as Layout
use Rattle.layout.specs.Rows.{field, flag_of, suspended_of, waiting_of, terminated_of, count_of, length_of}
use Rattle.layout.specs.Rows.{master_of}
use Rattle.layout.specs.View.{is_set, is_process, view}
use Rattle.layout.specs.WellFormed.{Cells}
use Rattle.layout.proofs.Field.{at-is, field-other, field-same, region-other}
use Rattle.layout.proofs.Shown.{marks-here}
use Rattle.layout.proofs.Frame.{state-is, house-same, day-same, object-same, bytes_same, lock-same, cash-same, marks-same-at}
use Rattle.layout.proofs.Frame.{box-same, cap-same, money-same}
use Rattle.call_steps.specs.Run.{Process}
use Rattle.call_steps.proofs.Process.{is-process}

-- ---- a store among the rows of marks

module _ (b : List ℕ) (c v : ℕ) (low : Layout.SUSPENDED ≤ c) (high : c < Layout.COUNT) where
  flag-kept : flag_of (set b c v) ≡ flag_of b
  flag-kept = field-other 64 Layout.FLAG b c v (λ i p q. omega arith)

  count_kept : count_of (set b c v) ≡ count_of b
  count_kept = field-other 64 Layout.COUNT b c v (λ i p q. omega arith)

  length-kept : length_of (set b c v) ≡ length_of b
  length-kept = field-other 259 Layout.LENGTH b c v (λ i p q. omega arith)

  all-but-marks : (l w : List ℕ) (f : ℕ → Marks) → (view (set b c v) l w).marks ≡ f
      → view (set b c v) l w ≡ with_marks (view b l w) f
  unfolding with_marks
  all-but-marks l w f m =
      let b' : List ℕ = set b c v in
      state-is (view b' l w) (with_marks (view b l w) f)
      (house-same b l w b' l w refl)
      (day-same b l w b' l w refl)
      (object-same b l w b' l w refl (field-other 64 Layout.VOLUME b c v (λ i p q. omega arith)) refl refl flag-kept)
      (bytes_same b l w b' l w refl refl refl refl (region-other 32832 Layout.DATA b c v (λ i p. omega arith)))
      (lock-same b l w b' l w refl flag-kept refl refl)
      (cash-same b l w b' l w refl flag-kept refl)
      m
      (box-same b l w b' l w refl flag-kept count_kept length-kept refl
      (region-other 4160 Layout.TEXT b c v (λ i p. omega arith)))
      (cap-same b l w b' l w refl refl refl refl refl refl refl refl)
      (money-same b l w b' l w refl refl)

-- ---- the marks of a process

-- the rows of marks of b' are those of b, but for slot o
record Rows (b b' : List ℕ) (o suspended waiting terminated : ℕ) : Type 0 where
  suspended-row : suspended_of b' ≡ at (suspended_of b) o suspended
  waiting-row : waiting_of b' ≡ at (waiting_of b) o waiting
  terminated-row : terminated_of b' ≡ at (terminated_of b) o terminated

-- bytes that mean the state s, of the length and with the cells of a well-formed store
pub record Marked (b l w : List ℕ) (s : State) : Type 0 where
  pub shows : view b l w ≡ s
  pub sized : length b ≡ Layout.BYTES
  pub cells : Cells b l

module _ {b l : List ℕ} {o : ℕ} (P : Process b l o) (c v : ℕ) (low : Layout.SUSPENDED ≤ c) (high : c < Layout.COUNT)
    {s a t : ℕ} (R : Rows b (set b c v) o s a t) where
  marks-stored : (w : List ℕ) → view (set b c v) l w ≡ with_marks (view b l w)
      (at (view b l w).marks o (record { suspended = is_set s; waiting = is_set a; terminated = is_set t }))
  marks-stored w =
      let b' : List ℕ = set b c v in
      let f : flag_of b' ≡ flag_of b = flag-kept b c v low high in
      all-but-marks b c v low high l w _ (at-is (view b l w).marks (view b' l w).marks o _
      (marks-here b' l w o (rw f (is-process P))
      ∙ rw (
        R.suspended-row,
        R.waiting-row,
        R.terminated-row,
        at_here (suspended_of b) o s,
        at_here (waiting_of b) o a,
        at_here (terminated_of b) o t,
      ))
      (λ j ne. marks-same-at b l w b' l w j refl (λ i. f i j)
      ((λ i. R.suspended-row i j) ∙ at-else (suspended_of b) o s j ne)
      ((λ i. R.waiting-row i j) ∙ at-else (waiting_of b) o a j ne)
      ((λ i. R.terminated-row i j) ∙ at-else (terminated_of b) o t j ne)))

  cells-stored : Cells b l → s ≤ 1 → a ≤ 1 → t ≤ 1 → Cells (set b c v) l
  cells-stored C s₁ a₁ t₁ =
      let f : flag_of (set b c v) ≡ flag_of b = flag-kept b c v low high in
      let n : count_of (set b c v) ≡ count_of b = count_kept b c v low high in
      let Small : ℕ → ℕ → Type 0 = λ j x. is_process (master_of l) (flag_of b) j ≡ true → x ≤ 1 in
      record {
        flag = rw f C.flag;
        suspended = rw (f, R.suspended-row) (at-by Small (suspended_of b) o s (λ _. s₁) (λ j _. C.suspended j));
        waiting = rw (f, R.waiting-row) (at-by Small (waiting_of b) o a (λ _. a₁) (λ j _. C.waiting j));
        terminated = rw (f, R.terminated-row) (at-by Small (terminated_of b) o t (λ _. t₁) (λ j _. C.terminated j));
        count = rw (f, n) C.count;
        length = rw (f, n, length-kept b c v low high) C.length;
      }

  marked : (w : List ℕ) → length b ≡ Layout.BYTES → Cells b l → s ≤ 1 → a ≤ 1 → t ≤ 1
      → Marked (set b c v) l w (with_marks (view b l w)
      (at (view b l w).marks o (record { suspended = is_set s; waiting = is_set a; terminated = is_set t })))
  marked w z C s₁ a₁ t₁ = record { shows = marks-stored w; sized = simp length-set z; cells = cells-stored C s₁ a₁ t₁ }

-- ---- each of the three

module _ {b l : List ℕ} {o : ℕ} (P : Process b l o) (v : ℕ) (z : length b ≡ Layout.BYTES) where
  -- the row of the mark, and another one
  row_here : (off : ℕ) → off + 64 < Layout.BYTES → field 64 off (set b (off + o) v) ≡ at (field 64 off b) o v
  row_here off h = field-same 64 off b o v P.high (omega arith) P.low

  row-else : (off c : ℕ) → ((i : ℕ) → 1 ≤ i → i ≤ 64 → off + i ≢ c)
      → field 64 off (set b c v) ≡ at (field 64 off b) o (field 64 off b o)
  row-else off c h = field-other 64 off b c v h ∙ at-is (field 64 off b) (field 64 off b) o _ refl (λ j _. refl)

  suspended-rows : Rows b (set b (Layout.SUSPENDED + o) v) o v (waiting_of b o) (terminated_of b o)
  suspended-rows = record {
    suspended-row = row_here Layout.SUSPENDED (omega arith);
    waiting-row = row-else Layout.WAITING (Layout.SUSPENDED + o) (λ i p q. omega (arith, P.high));
    terminated-row = row-else Layout.TERMINATED (Layout.SUSPENDED + o) (λ i p q. omega (arith, P.high));
  }

  waiting-rows : Rows b (set b (Layout.WAITING + o) v) o (suspended_of b o) v (terminated_of b o)
  waiting-rows = record {
    suspended-row = row-else Layout.SUSPENDED (Layout.WAITING + o) (λ i p q. omega (arith, P.high));
    waiting-row = row_here Layout.WAITING (omega arith);
    terminated-row = row-else Layout.TERMINATED (Layout.WAITING + o) (λ i p q. omega (arith, P.high));
  }

  terminated-rows : Rows b (set b (Layout.TERMINATED + o) v) o (suspended_of b o) (waiting_of b o) v
  terminated-rows = record {
    suspended-row = row-else Layout.SUSPENDED (Layout.TERMINATED + o) (λ i p q. omega (arith, P.high));
    waiting-row = row-else Layout.WAITING (Layout.TERMINATED + o) (λ i p q. omega (arith, P.high));
    terminated-row = row_here Layout.TERMINATED (omega arith);
  }

  module _ (w : List ℕ) (C : Cells b l) (one : v ≤ 1) where
    pub suspended-marked : Marked (set b (Layout.SUSPENDED + o) v) l w (set_suspended (view b l w) o (is_set v))
    unfolding set_suspended
    suspended-marked =
        let h = is-process P in
        rw (marks-here b l w o h)
        (marked P (Layout.SUSPENDED + o) v (omega arith) (omega (arith, P.high)) suspended-rows
        w z C one (C.waiting o h) (C.terminated o h))

    pub waiting-marked : Marked (set b (Layout.WAITING + o) v) l w (set_waiting (view b l w) o (is_set v))
    unfolding set_waiting
    waiting-marked =
        let h = is-process P in
        rw (marks-here b l w o h)
        (marked P (Layout.WAITING + o) v (omega arith) (omega (arith, P.high)) waiting-rows
        w z C (C.suspended o h) one (C.terminated o h))

    pub terminated-marked : Marked (set b (Layout.TERMINATED + o) v) l w (set_terminated (view b l w) o (is_set v))
    unfolding set_terminated
    terminated-marked =
        let h = is-process P in
        rw (marks-here b l w o h)
        (marked P (Layout.TERMINATED + o) v (omega arith) (omega (arith, P.high)) terminated-rows
        w z C (C.suspended o h) (C.waiting o h) one)
