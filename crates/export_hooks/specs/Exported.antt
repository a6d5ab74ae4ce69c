-- A write and a read by hook across C.
use Rattle.std.specs.Prelude.{ℕ, List}
use Rattle.values.specs.declared.window.Window.{Window}
use Rattle.call_steps.specs.declared.request.Name.{Name}
use Rattle.call_steps.specs.declared.request.Capability.{Capability}
use Rattle.call_steps.specs.declared.request.Request.{Request}
use Rattle.kernel_step.specs.Slices.{Slices}
use Rattle.product_hooks.specs.Hooked.{Hooked}
use Rattle.call_steps.specs.Numbers.{name_at, capability_at, window_at}
use Rattle.export_numbers.specs.Call.{reply_length, numbers_of}
use Rattle.export_numbers.specs.Crossing.{Crosses, Answered, Unanswered}

-- how many numbers a request has; a reply has those of a call's
abbrev pub request_length : ℕ
request_length = 8

-- the caller, the capability presented, the range
abbrev pub asked : (Name → Capability → Window → Request) → List ℕ → Request
asked request l = request (name_at l 0) (capability_at l 2) (window_at l 6)

-- the call by hook is made, or nothing is written; code is what is returned, reply' and is are the slices at exit;
-- `request` says which call it is
abbrev pub Exported : (request : Name → Capability → Window → Request) (numbers text : List ℕ) (code : ℕ)
    (reply reply' : List ℕ) (was is : Slices) → Type 0
Exported request numbers text code reply reply' was is = Crosses request_length reply_length numbers reply
    (Answered numbers_of (λ r. Hooked (asked request numbers) text r was is) code reply')
    (Unanswered code reply reply' was is)
