-- A call looks at the scratch's length in its refusal 2 alone, and delete_cap and rename_obj alone do.
use Prim.Native.Nat.{ℕ, ◌≤◌}
use mathlib.Core.Path.{◌≡◌, refl, sym, ap, ◌∙◌}
use mathlib.Core.List.{List}
use mathlib.Core.Bool.{true, false}
use lib.Dec.{eqb}
use borrow.Author.Tests.{le-leb}
use Rattle.rules.specs.Limit as Limit
use Rattle.rules.specs.Rights.{Op, make_obj, read, write, cap_info, derive_cap, delete_cap, rename_obj, withdraw}
use Rattle.rules.specs.Rights.{deposit, suspend, resume, apply_lock, send, receive, wait, revive, unknown, op}
use Rattle.rules.specs.Rights.{day_number}
use Rattle.rules.specs.Call.{Call}
use Rattle.rules.specs.Refusals.{buffer_fits, scratch_fits, arguments_fit, in_range, caller, early}
use Rattle.call_steps.specs.declared.request.Request.{Request}
use Rattle.call_steps.specs.Request.{call_of}
use Rattle.call_steps.specs.Run.{settled}
use Rattle.call_enter.specs.Entry.{Entry, entered, entry, goes_on_with, step_with}
use Rattle.call_day.specs.Runs.{day_run}
use Rattle.kernel_step.specs.Own.{own_run}
use Rattle.kernel_step.specs.Run.{step_run}
use Rattle.kernel_step.specs.Theorems.{SameRun}

module _ (q : Request) (text : List ℕ) (buffer n m : ℕ) (low : Limit.scratch ≤ n) (low' : Limit.scratch ≤ m) where
  abbrev c : Call
  c = call_of q text buffer n

  abbrev c' : Call
  c' = call_of q text buffer m

  abbrev Alike : Op → Type 0
  Alike o = (arguments_fit o c ≡ arguments_fit o c')
      × ((b l w : List ℕ) (me k : ℕ) → own_run b l w c me k o ≡ own_run b l w c' me k o)

  fit : scratch_fits c ≡ scratch_fits c'
  unfolding scratch_fits call_of
  fit = le-leb Limit.scratch n low ∙ sym (le-leb Limit.scratch m low')

  alike : (o : Op) → Alike o
  unfolding arguments_fit buffer_fits own_run call_of
  alike make_obj = (refl, λ b l w me k. refl)
  alike read = (refl, λ b l w me k. refl)
  alike write = (refl, λ b l w me k. refl)
  alike cap_info = (refl, λ b l w me k. refl)
  alike derive_cap = (refl, λ b l w me k. refl)
  alike delete_cap = (fit, λ b l w me k. refl)
  alike rename_obj = (fit, λ b l w me k. refl)
  alike withdraw = (refl, λ b l w me k. refl)
  alike deposit = (refl, λ b l w me k. refl)
  alike suspend = (refl, λ b l w me k. refl)
  alike resume = (refl, λ b l w me k. refl)
  alike apply_lock = (refl, λ b l w me k. refl)
  alike send = (refl, λ b l w me k. refl)
  alike receive = (refl, λ b l w me k. refl)
  alike wait = (refl, λ b l w me k. refl)
  alike revive = (refl, λ b l w me k. refl)
  alike unknown = (refl, λ b l w me k. refl)

  range-is : in_range c ≡ in_range c'
  unfolding in_range call_of
  range-is = rw (alike (op q.number)).0

  entry-is : (b l w : List ℕ) → entry b l w c ≡ entry b l w c'
  unfolding entry entered early caller call_of
  entry-is b l w = rw range-is

  with-is : (b l w : List ℕ) → step_with own_run b l w c ≡ step_with own_run b l w c'
  unfolding step_with goes_on_with call_of
  with-is b l w =
      let e : Entry = entry b l w c in
      ap (settled e.code e.bytes l e.words) ((alike (op q.number)).1 e.bytes l e.words e.me e.slot)
      ∙ ap (goes_on_with own_run l c') (entry-is b l w)

  run_is : (b l w : List ℕ) → step_run b l w c ≡ step_run b l w c'
  unfolding step_run call_of
  run_is b l w = ap (λ x. elim (eqb q.number day_number) [ true ↦ day_run b l w q.day | false ↦ x ]) (with-is b l w)

pub same-run : SameRun
unfolding SameRun
same-run b l w q text buffer n m low low' = run_is q text buffer n m low low' b l w
