-- What a function leaves is exactly a run: the reply, the store's slices, the answer buffer and the scratch.
use Rattle.std.specs.Prelude.{ℕ, ◌≡◌, Bool, true, false, ◌||◌, List, eqb}
use Rattle.rules.specs.Rights.{Op, op, asked, DELETE_CAP, RENAME_OBJ}
use Rattle.rules.specs.Call.{Call}
use Rattle.call_steps.specs.declared.request.Request.{Request}
use Rattle.call_steps.specs.Run.{Ran}
use Rattle.call_steps.specs.Replies.{Answers}
use Rattle.call_enter.specs.Entry.{OwnPart}
use Rattle.call_prune.specs.Scratch.{scratch_left}
use Rattle.kernel_step.specs.Slices.{Slices, Store, call_on}
use Rattle.kernel_step.specs.Own.{own_run}
use Rattle.kernel_step.specs.Run.{step_run}
use Rattle.call_steps.specs.Request.{Reply}

-- ---- the scratch

-- delete_cap and rename_obj, by the right that each asks
unfoldable pub clears : Op → Bool
clears o = eqb (asked o) DELETE_CAP || eqb (asked o) RENAME_OBJ

-- "every other call leaves it unchanged"
unfoldable pub scratch_after_call : Op → ℕ → List ℕ → List ℕ
scratch_after_call o code scratch = elim (clears o) [ true ↦ scratch_left code scratch | false ↦ scratch ]

-- ---- a run that is over

pub record Ends (c : Call) (x : Ran) (r : Reply) (was is : Slices) : Type 0 where
  pub replies : Answers x.answer r was.buffer is.buffer
  pub store : Store is x.bytes x.links x.words
  pub scratch : is.scratch ≡ scratch_after_call (op c.number) x.answer.code was.scratch

-- ---- the two levels of the code

-- any own part
abbrev pub OwnEndsOf : OwnPart → Request → List ℕ → ℕ → ℕ → Reply → Slices → Slices → Type 0
OwnEndsOf own q text me k r was is = Ends (call_on q text was)
    (own was.bytes was.links was.words (call_on q text was) me k (op q.number)) r was is

abbrev pub OwnEnds : Request → List ℕ → ℕ → ℕ → Reply → Slices → Slices → Type 0
OwnEnds = OwnEndsOf own_run

abbrev pub StepEnds : Request → List ℕ → Reply → Slices → Slices → Type 0
StepEnds q text r was is = Ends (call_on q text was)
    (step_run was.bytes was.links was.words (call_on q text was)) r was is
