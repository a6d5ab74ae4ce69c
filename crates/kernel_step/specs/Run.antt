-- The whole call on a well-formed store, exactly: call 17, or what comes before a process's own part, then that.
use Rattle.std.specs.Prelude.{ℕ, true, false, List, eqb}
use Rattle.rules.specs.Rights.{day_number}
use Rattle.rules.specs.Call.{Call}
use Rattle.call_steps.specs.Run.{Ran}
use Rattle.call_enter.specs.Entry.{step_with}
use Rattle.call_day.specs.Runs.{day_run}
use Rattle.kernel_step.specs.Own.{own_run}

unfoldable pub step_run : List ℕ → List ℕ → List ℕ → Call → Ran
step_run b l w c = elim (eqb c.number day_number) [ true ↦ day_run b l w c.day | false ↦ step_with own_run b l w c ]
