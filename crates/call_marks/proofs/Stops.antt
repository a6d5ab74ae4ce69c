-- A run by what the code found in the cells: which of its refusals stops it, or what it stores.
use Prim.Native.Nat.{ℕ, ◌+◌, ◌-◌, ◌≤◌}
use mathlib.Core.Path.{◌≡◌, sym, ap, ◌∙◌}
use mathlib.Core.Logic.{◌≢◌}
use mathlib.Core.Bool.{Bool, true, false, not, ◌||◌}
use mathlib.Core.List.{List, [], ◌∷◌}
use native.Mathlib.Omega.{arith}
use lib.Dec.{eqb, ltb}
use lib.ListN.{get_or, set}
use borrow.Author.Tests.{ltb-false}
use Rattle.rules.specs.Code as Code
use Rattle.rules.specs.Limit as Limit
use Rattle.rules.specs.Refusals.{◌when◌, first}
use Rattle.rules.proofs.Tests.{by_bool}
use Rattle.values.specs.Words.{lockword_of, xor_of}
use Rattle.values.specs.declared.refusal.Refusal.{Refusal}
use Rattle.values.specs.Refusals.{number_of}
use Rattle.values.proofs.Numbers.{number-some}
use Rattle.layout.specs.Layout as Layout
use Rattle.layout.specs.Rows.{flag_of, owner_of}
use Rattle.layout.specs.View.{is_set}
use Rattle.layout.proofs.Field.{field_in}
use Rattle.layout.proofs.Shown.{is-set, set-yes, set-no}
use Rattle.call_steps.specs.Run.{over}
use Rattle.call_steps.proofs.Meeting.{stopped, goes_on}
use Rattle.call_steps.specs.Tests.{ObjectSlot}
use Rattle.call_steps.specs.Run.{Target}
use Rattle.call_marks.specs.Runs.{process_stop, suspended_run, lock_run}
use Rattle.call_marks.specs.Runs.{revive_stop, spent_words, moved_words, revive_run, Room, Affords}

-- ---- refusal 8

module _ (b l : List ℕ) (k : ℕ) where
  pub process-data : is_set (flag_of b (owner_of l k)) ≡ false → process_stop b l k ≡ Code.not_process
  unfolding process_stop first ◌when◌
  process-data e = rw e

  pub revive-data : (w : List ℕ) (me sum : ℕ) → is_set (flag_of b (owner_of l k)) ≡ false
      → revive_stop b l w me k sum ≡ Code.not_process
  unfolding revive_stop first ◌when◌
  revive-data w me sum e = rw e

  process-unmet : is_set (flag_of b (owner_of l k)) ≡ true → process_stop b l k ≡ 0
  unfolding process_stop first ◌when◌
  process-unmet e = rw e

  -- the other way
  pub process-set : 0 ≡ process_stop b l k → is_set (flag_of b (owner_of l k)) ≡ true
  process-set z = by_bool (is_set (flag_of b (owner_of l k))) (λ e. e) (λ e. absurd (omega (arith, process-data e, z)))

  process-clear : {n : ℕ} → n ≡ process_stop b l k → n ≢ 0 → is_set (flag_of b (owner_of l k)) ≡ false
  process-clear q nz = by_bool (is_set (flag_of b (owner_of l k))) (λ e. absurd (nz (q ∙ process-unmet e))) (λ e. e)

  -- as the code reads it
  module _ {o : ℕ} (q : o ≡ owner_of l k) (T : Target l k) where
    flag-is : {t : Bool} → is_set (get_or b (Layout.FLAG + o) 0) ≡ t → is_set (flag_of b (owner_of l k)) ≡ t
    flag-is e = ap is_set (field_in 64 Layout.FLAG b (owner_of l k) T.slot.low T.slot.high) ∙ rw q at e

    pub no-process : get_or b (Layout.FLAG + o) 0 ≡ 0 → Code.not_process ≡ process_stop b l k
    no-process z = sym (process-data (flag-is (set-no _ z)))

    pub a-process : get_or b (Layout.FLAG + o) 0 ≢ 0 → 0 ≡ process_stop b l k
    a-process z = sym (process-unmet (flag-is (set-yes _ z)))

-- ---- suspend, resume, apply_lock

module _ (b l : List ℕ) (k : ℕ) (w : List ℕ) where
  -- the refusal r of the target is revive's
  pub revive-refused : (r : Refusal) → number_of r ≡ process_stop b l k → (me sum : ℕ)
      → revive_stop b l w me k sum ≡ number_of r
  revive-refused r q me sum =
      let no = process-clear b l k q (number-some r) in
      revive-data b l k w me sum no ∙ sym (process-data b l k no) ∙ sym q

  -- none, and the target's slot is o
  module _ {o : ℕ} (q : o ≡ owner_of l k) (z : 0 ≡ process_stop b l k) where
    pub suspended-done : (v : ℕ) → over 0 (set b (Layout.SUSPENDED + o) v) l w ≡ suspended_run b l w k v
    unfolding suspended_run
    suspended-done v = rw q (goes_on b l w _ (sym z))

    pub lock-done : (x : List ℕ) → Target l k → (y : List ℕ)
        → y ≡ xor_of (get_or w (Layout.LOCK1 + o) 0 ∷ get_or w (Layout.LOCK2 + o) 0 ∷ []) x
        → over 0 b l (set (set w (Layout.LOCK1 + o) (get_or y 0 0)) (Layout.LOCK2 + o) (get_or y 1 0))
        ≡ lock_run b l w k (lockword_of x)
    unfolding lock_run
    lock-done x T y e =
        let s : ObjectSlot o = rw q T.slot in
        rw (
          e,
          ← field_in 64 Layout.LOCK1 w o s.low s.high,
          ← field_in 64 Layout.LOCK2 w o s.low s.high,
          q,
        )
        (goes_on b l w _ (sym z))

-- ---- revive

-- what the code of revive goes by, where the target is a process
pub record Reviving (b l : List ℕ) (me k o : ℕ) : Type 0 where
  pub found : o ≡ owner_of l k
  pub process : 0 ≡ process_stop b l k
  pub target : Target l k
  pub caller : ObjectSlot me

module _ {b l : List ℕ} {me k o : ℕ} (R : Reviving b l me k o) (w : List ℕ) (sum : ℕ) where
  pub target-slot : ObjectSlot o
  target-slot = rw R.found R.target.slot

  -- with its three tests as they came out, or as they stand
  revive-stop : {t z q : Bool} → is_set (get_or b (Layout.TERMINATED + o) 0) ≡ t → eqb sum 0 ≡ z
      → ltb (get_or w (Layout.CASH + me) 0) sum ≡ q
      → revive_stop b l w me k sum
      ≡ first (Code.not_process when false ∷ Code.not_revivable when (not t || z) ∷ Code.too_little when q ∷ [])
  unfolding revive_stop
  revive-stop t z q =
      let s = R.target.slot in
      let m = R.caller in
      rw (
        process-set b l k R.process,
        field_in 64 Layout.TERMINATED b (owner_of l k) s.low s.high,
        field_in 64 Layout.CASH w me m.low m.high,
        ← R.found,
        t,
        z,
        q,
      )

  pub revive-met : (n : ℕ) {t z q : Bool} → is_set (get_or b (Layout.TERMINATED + o) 0) ≡ t → eqb sum 0 ≡ z
      → ltb (get_or w (Layout.CASH + me) 0) sum ≡ q
      → first (Code.not_process when false ∷ Code.not_revivable when (not t || z) ∷ Code.too_little when q ∷ []) ≡ n
      → n ≢ 0 → over n b l w ≡ revive_run b l w me k sum
  unfolding revive_run
  revive-met n t z q e ne = stopped b l w _ n (revive-stop t z q ∙ e) ne

  pub revive-done : is_set (get_or b (Layout.TERMINATED + o) 0) ≡ true → eqb sum 0 ≡ false
      → ltb (get_or w (Layout.CASH + me) 0) sum ≡ false
      → over 0 (set b (Layout.TERMINATED + o) 0) l (moved_words w me o sum) ≡ revive_run b l w me k sum
  unfolding revive_run first ◌when◌
  revive-done t z q = rw R.found (goes_on b l w _ (revive-stop t z q))

  pub room-is : ltb (get_or w (Layout.CASH + me) 0) sum ≡ false → Affords b l w me k sum → Room w me o sum
  room-is q a =
      let m = R.caller in
      let enough : sum ≤ get_or w (Layout.CASH + me) 0 = ltb-false _ _ q in
      rw R.found (a (is-set (flag_of b (owner_of l k)) (process-set b l k R.process))
      (rw (field_in 64 Layout.CASH w me m.low m.high) enough))

-- the sum is taken, and added to what that left
module _ (w : List ℕ) (me o sum left : ℕ) (M : ObjectSlot me) (O : ObjectSlot o)
    (e : left ≡ get_or w (Layout.CASH + me) 0 - sum) where
  spent-is : set w (Layout.CASH + me) left ≡ spent_words w me sum
  spent-is = rw (e, field_in 64 Layout.CASH w me M.low M.high)

  pub moved-room : Room w me o sum → get_or (set w (Layout.CASH + me) left) (Layout.CASH + o) 0 + sum ≤ Limit.word
  moved-room r = rw (spent-is, ← field_in 64 Layout.CASH (spent_words w me sum) o O.low O.high) r

  pub moved-is : set (set w (Layout.CASH + me) left) (Layout.CASH + o)
      (get_or (set w (Layout.CASH + me) left) (Layout.CASH + o) 0 + sum) ≡ moved_words w me o sum
  unfolding moved_words
  moved-is = rw (spent-is, ← field_in 64 Layout.CASH (spent_words w me sum) o O.low O.high)
