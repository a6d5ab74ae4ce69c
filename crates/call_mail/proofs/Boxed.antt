-- Stores that change the box of one process, the marks and the cash: what the view is after them, and that the cells
-- keep their ranges. Both calls go by this.
use Prim.Native.Nat.{ℕ, ◌*◌, ◌≤◌, ◌<◌}
use mathlib.Core.Path.{◌≡◌, refl, sym, ap, ◌∙◌}
use mathlib.Core.Logic.{◌≢◌}
use mathlib.Core.Bool.{true}
use mathlib.Core.List.{List}
use native.Mathlib.Omega.{arith}
use lib.ListN.{get_or}
use Rattle.rules.specs.Slots.{at}
use Rattle.rules.specs.Store.{Marks, Message}
use Rattle.rules.specs.Update.{with_cash, with_marks, with_box}
use Rattle.rules.proofs.Tests.{by_bool, by-eq}
use Rattle.layout.specs.Layout as Layout
use Rattle.layout.specs.Rows.{volume_of, flag_of, suspended_of, waiting_of, terminated_of, count_of, length_of, text_in, data_in}
use Rattle.layout.specs.Rows.{master_of, lock1_of, lock2_of, sum_of, p1_of, p2_of, money_of, start_of, end_of}
use Rattle.layout.specs.View.{is_process, messages, view}
use Rattle.layout.specs.WellFormed.{Cells}
use Rattle.layout.proofs.Field.{at-is, field-high}
use Rattle.layout.proofs.Shown.{process-lives, box-here, box-none}
use Rattle.layout.proofs.Frame.{state-is, house-same, day-same, object-same, bytes_same, lock-same, cap-same, money-same}
use Rattle.call_mail.specs.Runs.{message_slot}
use Rattle.call_mail.proofs.Boxes.{message_at, messages-moved}

-- message slot j is none of object o's
abbrev pub Outside : ℕ → ℕ → Type 0
Outside o j = (m : ℕ) → m < 4 → j ≢ message_slot o m

-- the bytes and the words differ in waiting marks and cash, and in the box of o
pub record Boxed (b w b' w' : List ℕ) (o : ℕ) : Type 0 where
  pub volume : volume_of b' ≡ volume_of b
  pub flag : flag_of b' ≡ flag_of b
  pub suspended : suspended_of b' ≡ suspended_of b
  pub terminated : terminated_of b' ≡ terminated_of b
  pub count : (j : ℕ) → j ≢ o → count_of b' j ≡ count_of b j
  pub length : (j : ℕ) → Outside o j → length_of b' j ≡ length_of b j
  pub message : (j : ℕ) → j ≤ 259 → Outside o j → length_of b j ≤ 16
      → message_at (length_of b') (sum_of w') (text_in b') j ≡ message_at (length_of b) (sum_of w) (text_in b) j
  pub room : count_of b' o ≤ 4
  pub short : (m : ℕ) → m < count_of b' o → length_of b' (message_slot o m) ≤ 16
  pub bytes : data_in b' ≡ data_in b
  pub house : get_or w' Layout.HOUSE 0 ≡ get_or w Layout.HOUSE 0
  pub lock1 : lock1_of w' ≡ lock1_of w
  pub lock2 : lock2_of w' ≡ lock2_of w
  pub p1 : p1_of w' ≡ p1_of w
  pub p2 : p2_of w' ≡ p2_of w
  pub money : money_of w' ≡ money_of w
  pub start : start_of w' ≡ start_of w
  pub end : end_of w' ≡ end_of w

module _ {b w b' w' : List ℕ} {o : ℕ} (X : Boxed b w b' w' o) (l : List ℕ) (C : Cells b l) where
  -- another box
  box-kept : (j : ℕ) → j ≢ o → (view b' l w').box j ≡ (view b l w).box j
  box-kept j ne =
      let f : is_process (master_of l) (flag_of b') j ≡ is_process (master_of l) (flag_of b) j =
      ap (λ g. is_process (master_of l) g j) X.flag in
      by_bool (is_process (master_of l) (flag_of b) j)
      (λ h.
      let high : j ≤ 64 = field-high 64 Layout.MASTER l j (process-lives (master_of l) (flag_of b) j h) in
      let few : count_of b j ≤ 4 = C.count j h in
      box-here b' l w' j (f ∙ h)
      ∙ ap (λ n. messages n (length_of b') (sum_of w') (text_in b') (j * 4)) (X.count j ne)
      ∙ messages-moved (length_of b) (length_of b') (sum_of w) (sum_of w') (text_in b) (text_in b') (count_of b j)
      (j * 4) (j * 4)
      (λ m p. X.message (message_slot j m) (omega arith) (λ q r. omega arith) (C.length j m h p))
      ∙ sym (box-here b l w j h))
      (λ h. box-none b' l w' j (f ∙ h) ∙ sym (box-none b l w j h))

  pub box-is : is_process (master_of l) (flag_of b) o ≡ true → (x : List Message)
      → messages (count_of b' o) (length_of b') (sum_of w') (text_in b') (o * 4) ≡ x
      → (view b' l w').box ≡ at (view b l w).box o x
  box-is h x e = at-is (view b l w).box (view b' l w').box o x
      (box-here b' l w' o (ap (λ g. is_process (master_of l) g o) X.flag ∙ h) ∙ e) box-kept

  -- the view, where its cash, its marks and its boxes are these
  pub boxed-view : (c : ℕ → ℕ) (m : ℕ → Marks) (x : ℕ → List Message) → (view b' l w').cash ≡ c
      → (view b' l w').marks ≡ m → (view b' l w').box ≡ x
      → view b' l w' ≡ with_box (with_marks (with_cash (view b l w) c) m) x
  unfolding with_box with_marks with_cash
  boxed-view c m x e d f =
      state-is (view b' l w') (with_box (with_marks (with_cash (view b l w) c) m) x)
      (house-same b l w b' l w' X.house)
      (day-same b l w b' l w' refl)
      (object-same b l w b' l w' refl X.volume refl refl X.flag)
      (bytes_same b l w b' l w' refl refl refl refl X.bytes)
      (lock-same b l w b' l w' refl X.flag X.lock1 X.lock2)
      e
      d
      f
      (cap-same b l w b' l w' refl refl X.p1 X.p2 X.start X.end refl refl)
      (money-same b l w b' l w' refl X.money)

  pub boxed-cells : ((j : ℕ) → is_process (master_of l) (flag_of b) j ≡ true → waiting_of b' j ≤ 1) → Cells b' l
  boxed-cells a = record {
    flag = rw X.flag C.flag;
    suspended = rw (X.flag, X.suspended) C.suspended;
    waiting = rw X.flag a;
    terminated = rw (X.flag, X.terminated) C.terminated;
    count = rw X.flag (λ j h. by-eq j o (λ e. rw e X.room) (λ ne. rw (X.count j ne) (C.count j h)));
    length = rw X.flag (λ j m h p. by-eq j o
        (λ e. rw e (X.short m (rw e at p)))
        (λ ne.
        let q : m < count_of b j = rw (X.count j ne) at p in
        let few : count_of b j ≤ 4 = C.count j h in
        rw (X.length (message_slot j m) (λ n r. omega arith)) (C.length j m h q)));
  }
