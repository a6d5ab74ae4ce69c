-- The target in cells and in the view: the object of a living capability lives, and it is a process where its flag is
-- set; refusal 8, "not a process", is met in both or in none.
use Prim.Native.Nat.{ℕ}
use mathlib.Core.Path.{◌≡◌}
use mathlib.Core.Bool.{true, false}
use mathlib.Core.List.{List}
use native.Mathlib.Omega.{arith}
use Rattle.rules.specs.Code as Code
use Rattle.rules.specs.Call.{Call}
use Rattle.rules.specs.Refusals.{first}
use Rattle.rules.specs.Calls.{process_refuses}
use Rattle.rules.proofs.Tests.{by_bool}
use Rattle.layout.specs.Rows.{flag_of, master_of, owner_of}
use Rattle.layout.specs.View.{is_set, is_process, view}
use Rattle.layout.proofs.Shown.{set-yes, is-set, cap-object}
use Rattle.layout.proofs.Shown as Shown
use Rattle.call_steps.specs.Run.{Process, Target}
use Rattle.call_marks.specs.Runs.{process_stop}

module _ (b l w : List ℕ) (k : ℕ) (T : Target l k) where
  pub target-process : is_set (flag_of b (owner_of l k)) ≡ true → Process b l (owner_of l k)
  target-process e = record {
    low = T.slot.low;
    high = T.slot.high;
    live = T.live;
    flag = is-set (flag_of b (owner_of l k)) e;
  }

  -- the rules' target
  pub process-is : ((view b l w).object ((view b l w).cap k).object).process ≡ is_set (flag_of b (owner_of l k))
  unfolding is_process
  process-is =
      rw (cap-object b l w k, Shown.process-is b l w (owner_of l k), set-yes (master_of l (owner_of l k)) T.live)

  -- refusal 8 is met in the cells where it is met in the view
  pub stop_is : (c : Call) (me : ℕ) → process_stop b l k ≡ first (process_refuses (view b l w) c me k)
  unfolding process_stop process_refuses
  stop_is c me = rw process-is

  -- a call that data stops with 8, and that is not stopped
  pub unstopped : (n : ℕ) → (is_set (flag_of b (owner_of l k)) ≡ false → n ≡ Code.not_process) → n ≡ 0
      → Process b l (owner_of l k)
  unstopped n met z =
      by_bool (is_set (flag_of b (owner_of l k))) target-process (λ e. absurd (omega (arith, met e)))
