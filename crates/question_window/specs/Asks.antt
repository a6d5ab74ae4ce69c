-- The window question on any slices: 1 where the store is not well formed, else what the rules say.
use Rattle.std.specs.Prelude.{ℕ, List, Ok, Err, Result}
use Rattle.rules.specs.Code as Code
use Rattle.rules.specs.Questions as Questions
use Rattle.rules.specs.Questions.{unwindowed, window_asked}
use Rattle.values.specs.Words.{window_of}
use Rattle.layout.specs.Question.{Asked}
use Rattle.call_steps.specs.declared.request.Name.{Name}
use Rattle.call_steps.specs.declared.request.Capability.{Capability}
use Rattle.call_steps.specs.Request.{name_of, capability_of}
use Rattle.values.specs.declared.window.Window.{Window}
use Rattle.values.specs.declared.refusal.Refusal.{Refusal}
use Rattle.values.specs.Refusals.{number_of, code_of}

abbrev pub windowed_of : Result Window Refusal → Questions.Windowed
windowed_of (Ok v) = record { code = Code.done; window = window_of v }
windowed_of (Err r) = unwindowed (number_of r)

-- the caller presents x, and is answered r
abbrev pub Asks : List ℕ → List ℕ → List ℕ → Name → Capability → Result Window Refusal → Type 0
Asks b l w caller x r =
    Asked b l w unwindowed (λ s. window_asked s (name_of caller) (capability_of x)) (code_of r) (windowed_of r)
