-- The whole call is call 17's run, or a process's.
use Prim.Native.Nat.{ℕ}
use mathlib.Core.Path.{◌≡◌, sym, subst}
use mathlib.Core.Logic.{◌≢◌}
use mathlib.Core.List.{List}
use lib.Dec.{eqb}
use borrow.Author.Tests.{eq-eqb, ne_eqb}
use Rattle.rules.specs.Rights.{day_number}
use Rattle.rules.specs.Call.{Call}
use Rattle.rules.proofs.Tests.{by-eq, pick_yes, pick-not}
use Rattle.call_steps.specs.Run.{Ran}
use Rattle.call_enter.specs.Entry.{step_with}
use Rattle.call_day.specs.Runs.{day_run}
use Rattle.kernel_step.specs.Own.{own_run}
use Rattle.kernel_step.specs.Run.{step_run}

module _ (b l w : List ℕ) (c : Call) where
  pub step-host : c.number ≡ day_number → step_run b l w c ≡ day_run b l w c.day
  unfolding step_run
  step-host e = pick_yes (eqb c.number day_number) (day_run b l w c.day) (step_with own_run b l w c) (eq-eqb _ _ e)

  pub step-process : c.number ≢ day_number → step_run b l w c ≡ step_with own_run b l w c
  unfolding step_run
  step-process n = pick-not (eqb c.number day_number) (day_run b l w c.day) (step_with own_run b l w c) (ne_eqb _ _ n)

  pub run_by : (P : Ran → Type 0) → (c.number ≡ day_number → P (day_run b l w c.day))
      → (c.number ≢ day_number → P (step_with own_run b l w c)) → P (step_run b l w c)
  run_by P host process = by-eq c.number day_number
      (λ e. subst P (sym (step-host e)) (host e)) (λ n. subst P (sym (step-process n)) (process n))
