-- 02, CR 6, "The tree that remains is the one that the old call left with 512.": the exact run is the same for any two lengths of the
-- scratch that are not refused.
use Rattle.std.specs.Prelude.{ℕ, ◌≤◌, ◌≡◌, List}
use Rattle.rules.specs.Limit as Limit
use Rattle.call_steps.specs.declared.request.Request.{Request}
use Rattle.call_steps.specs.Request.{call_of}
use Rattle.kernel_step.specs.Run.{step_run}

unfoldable pub SameRun : Type 0
SameRun = (b l w : List ℕ) (q : Request) (text : List ℕ) (buffer n m : ℕ) → Limit.scratch ≤ n → Limit.scratch ≤ m
    → step_run b l w (call_of q text buffer n) ≡ step_run b l w (call_of q text buffer m)
