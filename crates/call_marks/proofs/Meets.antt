-- Each call's run is what the rules give of its own part: 01, "suspend, resume", "apply_lock", "wait", "revive" and
-- "cap_info" of "What each call refuses, in order".
use Prim.Native.Nat.{ℕ, ◌≤◌}
use mathlib.Core.Path.{◌≡◌, refl, sym, ap, ◌∙◌}
use mathlib.Core.Bool.{false}
use mathlib.Core.List.{List}
use native.Mathlib.Omega.{arith}
use lib.Dec.{eqb}
use lib.ListN.{length, length-set}
use Rattle.rules.specs.Store.{State}
use Rattle.rules.specs.Rights.{Op, suspend, resume, apply_lock, wait, revive, cap_info, op}
use Rattle.rules.specs.Call.{Call, done, tells}
use Rattle.rules.specs.Refusals.{◌when◌, first}
use Rattle.rules.specs.Changes.{earn, spend, set_suspended}
use Rattle.rules.specs.Calls.{process_refuses, revive_refuses, refuses, does, suspend_does, resume_does, apply_lock_does}
use Rattle.rules.specs.Calls.{box_empty, wait_does, revive_does, cap_info_does}
use Rattle.rules.proofs.Tests.{by_bool, pick_yes, pick-not, pick-by}
use Rattle.layout.specs.Layout as Layout
use Rattle.layout.specs.Rows.{flag_of, count_of, owner_of}
use Rattle.layout.specs.View.{is_set, view}
use Rattle.layout.specs.WellFormed.{Plain}
use Rattle.layout.proofs.Lengths.{box-length}
use Rattle.layout.proofs.Shown.{cap-object, cap-here, money-here, lock-here, cash-here, marks-here}
use Rattle.call_steps.specs.Run.{Process, Held, MeetsPlain, over, Target}
use Rattle.call_marks.specs.Runs.{told, process_stop, suspended_run, locked_words, lock_run, wait_run}
use Rattle.call_marks.specs.Runs.{revive_stop, spent_words, moved_words, revive_run, info_run}
use Rattle.call_marks.proofs.Stops.{process-data, revive-data}
use Rattle.call_steps.proofs.Holding.{target-of}
use Rattle.call_marks.proofs.Targets.{target-process, process-is, stop_is, unstopped}
use Rattle.call_marks.proofs.Marked.{Marked, suspended-marked, waiting-marked, terminated-marked}
use Rattle.call_marks.proofs.Amounts.{spent-stored, earned-stored, lock-stored}
use Rattle.call_steps.proofs.Process.{is-process}
use Rattle.call_steps.proofs.Meeting.{none, takes, DoesPlain, plain_done, plain-settled}

module _ {b l w : List ℕ} (f : Plain b l w) (c : Call) (me k : ℕ) where
  abbrev s : State
  s = view b l w

  -- stores that mean what the call does, with the links as they were
  does-over : (o : Op) (b' w' : List ℕ) (r : State) → does s c me k none o ≡ done r → Marked b' l w' r
      → length w' ≡ Layout.WORDS → DoesPlain l s c me k o (over 0 b' l w')
  unfolding over done
  does-over o b' w' r e m z = record {
    rules = e ∙ ap done (sym m.shows);
    sized = record { bytes = m.sized; links = f.sized.links; words = z };
    cells = m.cells;
    links = refl;
  }

  -- ---- suspend, resume: the mark's value v, 1 or 0

  suspended-meets : (o : Op) (v : ℕ) → v ≤ 1 → Held l k → takes (op c.number) ≡ false
      → refuses s c me k o ≡ process_refuses s c me k
      → does s c me k none o ≡ done (set_suspended s (s.cap k).object (is_set v))
      → MeetsPlain l s c me k o (suspended_run b l w k v)
  unfolding suspended_run
  suspended-meets o v one h free e d =
      let T = target-of f h in
      plain-settled b l w c me k o free f (process_stop b l k) _ (stop_is b l w k T c me ∙ ap first (sym e)) (λ z.
      does-over o _ w _ (d ∙ ap (λ i. done (set_suspended s i (is_set v))) (cap-object b l w k))
      (suspended-marked (unstopped b l w k T _ (process-data b l k) z) v f.sized.bytes w f.cells one)
      f.sized.words)

  pub suspend-meets : Held l k → op c.number ≡ suspend → MeetsPlain l s c me k suspend (suspended_run b l w k 1)
  unfolding takes refuses does suspend_does is_set
  suspend-meets h e = suspended-meets suspend 1 (omega arith) h (rw e refl) refl refl

  pub resume-meets : Held l k → op c.number ≡ resume → MeetsPlain l s c me k resume (suspended_run b l w k 0)
  unfolding takes refuses does resume_does is_set
  resume-meets h e = suspended-meets resume 0 (omega arith) h (rw e refl) refl refl

  -- ---- wait

  pub wait-meets : Process b l me → op c.number ≡ wait → MeetsPlain l s c me k wait (wait_run b l w me)
  unfolding takes refuses does wait_does first wait_run is_set
  wait-meets m e =
      let empty : box_empty s c me k ≡ eqb (count_of b me) 0 = rw (box-length b l w me (is-process m)) refl in
      plain_done b l w c me k wait (rw e refl) refl
      (pick-by (λ b'. DoesPlain l s c me k wait (over 0 b' l w)) (eqb (count_of b me) 0) _ _
      (λ z. does-over wait _ w _ (pick_yes (box_empty s c me k) _ _ (empty ∙ z))
      (waiting-marked m 1 f.sized.bytes w f.cells (omega arith)) f.sized.words)
      (λ z. does-over wait b w s (pick-not (box_empty s c me k) _ _ (empty ∙ z))
      (record { shows = refl; sized = f.sized.bytes; cells = f.cells }) f.sized.words))

  -- ---- apply_lock

  pub apply-lock-meets : Held l k → op c.number ≡ apply_lock
      → MeetsPlain l s c me k apply_lock (lock_run b l w k c.lock)
  unfolding takes refuses does apply_lock_does lock_run
  apply-lock-meets h e =
      let T = target-of f h in
      plain-settled b l w c me k apply_lock (rw e refl) f (process_stop b l k) _ (stop_is b l w k T c me) (λ z.
      let P = unstopped b l w k T _ (process-data b l k) z in
      does-over apply_lock b (locked_words w (owner_of l k) c.lock) _ refl (record {
        shows = lock-stored P w f.sized.words _ _
            ∙ rw (cap-object b l w k, lock-here b l w (owner_of l k) (is-process P));
        sized = f.sized.bytes;
        cells = f.cells;
      }) (simp length-set f.sized.words))

  -- ---- revive

  module _ (m : Process b l me) (T : Target l k) where
    revive-stop : revive_stop b l w me k c.sum ≡ first (revive_refuses s c me k)
    unfolding revive_stop revive_refuses first ◌when◌
    revive-stop = by_bool (is_set (flag_of b (owner_of l k)))
        (λ e.
        let P = target-process b l w k T e in
        rw (
          process-is b l w k T,
          cap-object b l w k,
          marks-here b l w (owner_of l k) (is-process P),
          cash-here b l w me (is-process m),
        ))
        (λ e. rw (process-is b l w k T, e))

    -- the sum is spent by the caller and earned by the target
    moved-stored : Process b l (owner_of l k)
        → view b l (moved_words w me (owner_of l k) c.sum) ≡ earn (spend s me c.sum) (owner_of l k) c.sum
    unfolding moved_words
    moved-stored P =
        earned-stored P (spent_words w me c.sum) (simp length-set f.sized.words) c.sum
        ∙ ap (λ r. earn r (owner_of l k) c.sum) (spent-stored m w f.sized.words c.sum)

  pub revive-meets : Process b l me → Held l k → op c.number ≡ revive
      → MeetsPlain l s c me k revive (revive_run b l w me k c.sum)
  unfolding takes refuses does revive_does revive_run moved_words is_set
  revive-meets m h e =
      let T = target-of f h in
      plain-settled b l w c me k revive (rw e refl) f (revive_stop b l w me k c.sum) _ (revive-stop m T) (λ z.
      let P = unstopped b l w k T _ (revive-data b l k w me c.sum) z in
      let w' : List ℕ = moved_words w me (owner_of l k) c.sum in
      does-over revive _ w' _
      (rw (cap-object b l w k, ← moved-stored m T P) refl)
      (terminated-marked P 0 f.sized.bytes w' f.cells (omega arith))
      (simp length-set f.sized.words))

  -- ---- cap_info

  pub cap-info-meets : Held l k → op c.number ≡ cap_info → MeetsPlain l s c me k cap_info (info_run b l w k)
  unfolding takes refuses does cap_info_does first info_run told tells
  cap-info-meets h e = plain_done b l w c me k cap_info (rw e refl) refl (record {
    rules = rw (cap-here b l w k h.live, money-here b l w k h.live);
    sized = f.sized;
    cells = f.cells;
    links = refl;
  })
