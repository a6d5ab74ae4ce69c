-- What the view shows at a slot, by what the rows hold there: `here` where the record lives, `none` where it does not.
use Prim.Native.Nat.{ℕ, ◌*◌}
use mathlib.Core.Path.{◌≡◌, sym, ◌∙◌}
use mathlib.Core.Logic.{◌≢◌}
use mathlib.Core.Bool.{Bool, true, false, ◌&&◌, true≢false, and-false}
use mathlib.Core.List.{List, []}
use native.Mathlib.Decide.{ℕ_discrete}
use borrow.Author.Tests.{eq-eqb, ne_eqb}
use lib.ListN.{take}
use Rattle.rules.specs.Store.{no_object, no_lockword, no_marks, no_cap, blocks}
use Rattle.rules.specs.Valid.{Lives}
use Rattle.layout.specs.Rows.{volume_of, flag_of, suspended_of, waiting_of, terminated_of, count_of, length_of}
use Rattle.layout.specs.Rows.{text_in, data_in}
use Rattle.layout.specs.Rows.{master_of, serial_of, size_of, first_block_of, next_block_of}
use Rattle.layout.specs.Rows.{owner_of, parent_of, rights_of, last_day_of}
use Rattle.layout.specs.Rows.{cash_of, lock1_of, lock2_of, sum_of, p1_of, p2_of, money_of, start_of, end_of}
use Rattle.layout.specs.View.{is_set, is_process, only_where, objects, gather, bytes, locks, cash, marks}
use Rattle.layout.specs.View.{messages, boxes, caps, moneywords, view}

-- ---- the tests

pub set-yes : (x : ℕ) → x ≢ 0 → is_set x ≡ true
unfolding is_set
set-yes x h = rw (ne_eqb x 0 h)

pub set-no : (x : ℕ) → x ≡ 0 → is_set x ≡ false
unfolding is_set
set-no x h = rw (eq-eqb x 0 h)

pub is-set : (x : ℕ) → is_set x ≡ true → x ≢ 0
is-set x h z = true≢false (sym h ∙ set-no x z)

pub not_set : (x : ℕ) → is_set x ≡ false → x ≡ 0
not_set x h = go (ℕ_discrete x 0)
  where
    go : Dec (x ≡ 0) → x ≡ 0
    go (yes z) = z
    go (no nz) = absurd (true≢false (sym (set-yes x nz) ∙ h))

module _ (master flag : ℕ → ℕ) (o : ℕ) where
  pub process-yes : master o ≢ 0 → flag o ≢ 0 → is_process master flag o ≡ true
  unfolding is_process
  process-yes p q = rw (set-yes (master o) p, set-yes (flag o) q)

  pub process-no : master o ≡ 0 → is_process master flag o ≡ false
  unfolding is_process
  process-no z = rw (set-no (master o) z)

  -- an object that lives is a process by its flag
  pub by_flag : master o ≢ 0 → is_process master flag o ≡ is_set (flag o)
  unfolding is_process
  by_flag p = rw (set-yes (master o) p)

  pub data-no : flag o ≡ 0 → is_process master flag o ≡ false
  unfolding is_process
  data-no z = rw (set-no (flag o) z) (and-false (is_set (master o)))

  pub process-lives : is_process master flag o ≡ true → master o ≢ 0
  process-lives h z = true≢false (sym h ∙ process-no z)

  pub process-flag : is_process master flag o ≡ true → flag o ≢ 0
  process-flag h z = true≢false (sym h ∙ data-no z)

-- ---- only_where

module _ {A : Type 0} (test : ℕ → Bool) (none : A) (f : ℕ → A) (i : ℕ) where
  pub where-yes : test i ≡ true → only_where test none f i ≡ f i
  unfolding only_where
  where-yes h = rw (h, only_where)

  pub where-no : test i ≡ false → only_where test none f i ≡ none
  unfolding only_where
  where-no h = rw (h, only_where)

-- ---- an object's slot

module _ (b l w : List ℕ) (o : ℕ) where
  pub object-here : master_of l o ≢ 0 → (view b l w).object o ≡ record {
    live = true;
    name = record { volume = volume_of b o; serial = serial_of l o };
    size = size_of l o;
    process = is_set (flag_of b o);
  }
  unfolding view objects
  object-here h = where-yes (λ o. is_set (master_of l o)) no_object _ o (set-yes (master_of l o) h)

  pub object-none : master_of l o ≡ 0 → (view b l w).object o ≡ no_object
  unfolding view objects
  object-none z = where-no (λ o. is_set (master_of l o)) no_object _ o (set-no (master_of l o) z)

  pub live-is : ((view b l w).object o).live ≡ is_set (master_of l o)
  unfolding no_object
  live-is = go (ℕ_discrete (master_of l o) 0)
    where
      go : Dec (master_of l o ≡ 0) → ((view b l w).object o).live ≡ is_set (master_of l o)
      go (yes z) = rw (object-none z, set-no (master_of l o) z)
      go (no nz) = rw (object-here nz, set-yes (master_of l o) nz)

  pub object-lives : ((view b l w).object o).live ≡ true → master_of l o ≢ 0
  object-lives h = is-set (master_of l o) (sym live-is ∙ h)

  pub object-shown : master_of l o ≢ 0 → ((view b l w).object o).live ≡ true
  object-shown h = live-is ∙ set-yes (master_of l o) h

  pub object-free : ((view b l w).object o).live ≡ false → master_of l o ≡ 0
  object-free h = not_set (master_of l o) (sym live-is ∙ h)

  pub bytes-here : master_of l o ≢ 0 → (view b l w).bytes o
      ≡ take (size_of l o) (gather (blocks (size_of l o)) (next_block_of l) (data_in b) (first_block_of l o))
  unfolding view bytes
  bytes-here h = where-yes (λ o. is_set (master_of l o)) [] _ o (set-yes (master_of l o) h)

  pub bytes-none : master_of l o ≡ 0 → (view b l w).bytes o ≡ []
  unfolding view bytes
  bytes-none z = where-no (λ o. is_set (master_of l o)) [] _ o (set-no (master_of l o) z)

  -- ---- of a process

  pub process-is : ((view b l w).object o).process ≡ is_process (master_of l) (flag_of b) o
  unfolding is_process no_object
  process-is = go (ℕ_discrete (master_of l o) 0)
    where
      go : Dec (master_of l o ≡ 0) → ((view b l w).object o).process ≡ (is_set (master_of l o) && is_set (flag_of b o))
      go (yes z) = rw (object-none z, set-no (master_of l o) z)
      go (no nz) = rw (object-here nz, set-yes (master_of l o) nz)

  module _ (h : is_process (master_of l) (flag_of b) o ≡ true) where
    pub lock-here : (view b l w).lock o ≡ record { first = lock1_of w o; second = lock2_of w o }
    unfolding view locks
    lock-here = where-yes (is_process (master_of l) (flag_of b)) no_lockword _ o h

    pub cash-here : (view b l w).cash o ≡ cash_of w o
    unfolding view cash
    cash-here = where-yes (is_process (master_of l) (flag_of b)) 0 (cash_of w) o h

    pub marks-here : (view b l w).marks o ≡ record {
      suspended = is_set (suspended_of b o);
      waiting = is_set (waiting_of b o);
      terminated = is_set (terminated_of b o);
    }
    unfolding view marks
    marks-here = where-yes (is_process (master_of l) (flag_of b)) no_marks _ o h

    pub box-here : (view b l w).box o ≡ messages (count_of b o) (length_of b) (sum_of w) (text_in b) (o * 4)
    unfolding view boxes
    box-here = where-yes (is_process (master_of l) (flag_of b)) [] _ o h

  module _ (h : is_process (master_of l) (flag_of b) o ≡ false) where
    pub lock-none : (view b l w).lock o ≡ no_lockword
    unfolding view locks
    lock-none = where-no (is_process (master_of l) (flag_of b)) no_lockword _ o h

    pub cash-none : (view b l w).cash o ≡ 0
    unfolding view cash
    cash-none = where-no (is_process (master_of l) (flag_of b)) 0 (cash_of w) o h

    pub marks-none : (view b l w).marks o ≡ no_marks
    unfolding view marks
    marks-none = where-no (is_process (master_of l) (flag_of b)) no_marks _ o h

    pub box-none : (view b l w).box o ≡ []
    unfolding view boxes
    box-none = where-no (is_process (master_of l) (flag_of b)) [] _ o h

-- ---- a capability's slot

module _ (b l w : List ℕ) (i : ℕ) where
  pub cap-here : owner_of l i ≢ 0 → (view b l w).cap i ≡ record {
    object = owner_of l i;
    parent = parent_of l i;
    password = record { p1 = p1_of w i; p2 = p2_of w i };
    window = record { start = start_of w i; end = end_of w i };
    rights = rights_of l i;
    last_day = last_day_of l i;
  }
  unfolding view caps
  cap-here h = where-yes (λ i. is_set (owner_of l i)) no_cap _ i (set-yes (owner_of l i) h)

  pub cap-none : owner_of l i ≡ 0 → (view b l w).cap i ≡ no_cap
  unfolding view caps
  cap-none z = where-no (λ i. is_set (owner_of l i)) no_cap _ i (set-no (owner_of l i) z)

  pub money-here : owner_of l i ≢ 0 → (view b l w).money i ≡ money_of w i
  unfolding view moneywords
  money-here h = where-yes (λ i. is_set (owner_of l i)) 0 (money_of w) i (set-yes (owner_of l i) h)

  pub money-none : owner_of l i ≡ 0 → (view b l w).money i ≡ 0
  unfolding view moneywords
  money-none z = where-no (λ i. is_set (owner_of l i)) 0 (money_of w) i (set-no (owner_of l i) z)

  -- the object that a capability is of stands in its row, also where it is free
  pub cap-object : ((view b l w).cap i).object ≡ owner_of l i
  unfolding no_cap
  cap-object = go (ℕ_discrete (owner_of l i) 0)
    where
      go : Dec (owner_of l i ≡ 0) → ((view b l w).cap i).object ≡ owner_of l i
      go (yes z) = rw (cap-none z, z)
      go (no nz) = rw (cap-here nz)

  pub cap-lives : Lives (view b l w).cap i → owner_of l i ≢ 0
  cap-lives h z = h (cap-object ∙ z)

  pub cap-shown : owner_of l i ≢ 0 → Lives (view b l w).cap i
  cap-shown h z = h (sym cap-object ∙ z)

  pub cap-free : ((view b l w).cap i).object ≡ 0 → owner_of l i ≡ 0
  cap-free z = sym cap-object ∙ z

  pub parent_is : owner_of l i ≢ 0 → ((view b l w).cap i).parent ≡ parent_of l i
  parent_is h = rw (cap-here h)
