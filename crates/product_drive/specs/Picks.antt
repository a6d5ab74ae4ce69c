-- The promise of a pick, in 02's order of answers: the drive's own 2, the question's own, 17, then the read's own.
use Rattle.std.specs.Prelude.{ℕ, ◌≡◌, ◌≢◌, true, false, not, [], ◌∷◌, eqb, Ok, Err, Result}
use Rattle.rules.specs.Code as Code
use Rattle.rules.specs.Refusals.{◌when◌, first}
use Rattle.call_steps.specs.declared.request.Name.{Name}
use Rattle.call_steps.specs.declared.request.Capability.{Capability}
use Rattle.values.specs.declared.refusal.Refusal.{Refusal}
use Rattle.values.specs.declared.window.Window.{Window}
use Rattle.values.specs.Refusals.{code_of}
use Rattle.call_steps.specs.Request.{Reply, count_of, read_request}
use Rattle.kernel_step.specs.Slices.{Slices}
use Rattle.kernel_call.specs.Calls.{Calls}
use Rattle.question_window.specs.Asks.{Asks}
use Rattle.product_drive.specs.declared.repeat.Repeat.{Repeat}
use Rattle.product_drive.specs.declared.repeat.Place.{Place}
use Rattle.product_drive.specs.declared.picked.Picked.{Picked}
use Rattle.product_drive.specs.Drive.{step_at, fits, place_after, holds_repeat, row_of}

-- ---- what a pick gives

-- "A refused pick leaves the drive's place and steps unchanged."; the other numbers are 0
unfoldable pub refused_pick : ℕ → Place → Picked
refused_pick n d = record { code = n; step = 0; place = d; count = 0 }

-- what a pick at place d comes to by its read's reply
unfoldable pub picked_by : Repeat → Place → Reply → Picked
picked_by p d r = elim (eqb (code_of r) Code.done) [
  | true ↦ record { code = Code.done; step = step_at p d.next; place = place_after p d; count = count_of r }
  | false ↦ refused_pick (code_of r) d
]

-- the window of the question's answer, 0 and 0 of a refusal
abbrev pub told : Result Window Refusal → Window
told (Ok window) = window
told (Err r) = record { start = 0; end = 0 }

-- before the read is tried, a being the question's answer: its own refusal, then 17; 0 where neither is met
unfoldable pub unread : Repeat → Result Window Refusal → ℕ
unread p a = first
    (code_of a when not (eqb (code_of a) Code.done)
    ∷ Code.wrong_length when not (holds_repeat (told a) p)
    ∷ [])

-- ---- the promise

-- no call is made
pub record Unmade (n : ℕ) (d : Place) (r : Picked) (was is : Slices) : Type 0 where
  pub picked : r ≡ refused_pick n d
  pub slices-are : is ≡ was

-- "reads row i − 1 of a presented capability's window through a paid read"; a is the question's answer
pub record Reads (caller : Name) (x : Capability) (p : Repeat) (d : Place) (a : Result Window Refusal) (r : Picked) (was is : Slices)
    : Type 0 where
  pub reply : Reply
  pub call : Calls (read_request caller x (row_of (told a) p d.next)) [] reply was is
  pub picked : r ≡ picked_by p d reply

-- the question is asked
pub record Asked (caller : Name) (x : Capability) (p : Repeat) (d : Place) (r : Picked) (was is : Slices) : Type 0 where
  pub question : Result Window Refusal
  pub asks : Asks was.bytes was.links was.words caller x question
  -- "given after the question's own refusals and before the read is tried"
  pub refused : unread p question ≢ Code.done → Unmade (unread p question) d r was is
  pub reads : unread p question ≡ Code.done → Reads caller x p d question r was is

-- the caller presents x, the drive is at place d of the repeat p; r is what is handed back
pub record Picks (caller : Name) (x : Capability) (p : Repeat) (d : Place) (r : Picked) (was is : Slices) : Type 0 where
  -- out of range "is 2 and comes before the question"
  pub bad : fits p d ≡ false → Unmade Code.out_of_range d r was is
  pub asked : fits p d ≡ true → Asked caller x p d r was is
