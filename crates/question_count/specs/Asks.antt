-- The count of passwords on any slices: 1 where the store is not well formed, else what the rules say.
use Rattle.std.specs.Prelude.{ℕ, List, Ok, Err, Result}
use Rattle.rules.specs.Code as Code
use Rattle.rules.specs.Questions as Questions
use Rattle.rules.specs.Questions.{uncounted, passwords_asked}
use Rattle.layout.specs.Question.{Asked}
use Rattle.call_steps.specs.declared.request.Name.{Name}
use Rattle.call_steps.specs.Request.{name_of}
use Rattle.values.specs.declared.refusal.Refusal.{Refusal}
use Rattle.values.specs.Refusals.{number_of, code_of}

abbrev pub counted_of : Result ℕ Refusal → Questions.Counted
counted_of (Ok n) = record { code = Code.done; count = n }
counted_of (Err r) = uncounted (number_of r)

-- the process that the caller names would present passwords for the object, of which the right would be asked; r is answered
abbrev pub Asks : List ℕ → List ℕ → List ℕ → Name → Name → ℕ → Result ℕ Refusal → Type 0
Asks b l w caller object right r =
    Asked b l w uncounted (λ s. passwords_asked s (name_of caller) (name_of object) right) (code_of r) (counted_of r)
