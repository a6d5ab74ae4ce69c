-- The lending question on any slices: 1 where the store is not well formed, else what the rules say.
use Rattle.std.specs.Prelude.{ℕ, ◌≡◌, List, Ok, Err, Result}
use Rattle.rules.specs.Code as Code
use Rattle.rules.specs.Questions as Questions
use Rattle.rules.specs.Questions.{unlent, LendAsked}
use Rattle.values.specs.Words.{window_of}
use Rattle.layout.specs.Question.{AskedOf}
use Rattle.call_steps.specs.declared.request.Name.{Name}
use Rattle.call_steps.specs.Request.{name_of}
use Rattle.question_lend.specs.declared.Wish.{Wish}
use Rattle.values.specs.declared.refusal.Refusal.{Refusal}
use Rattle.values.specs.Refusals.{number_of, code_of}

abbrev pub wish_of : Wish → Questions.Wish
wish_of x = record { rights = x.rights; window = window_of x.window; sum = x.sum; last_day = x.last_day }

abbrev pub lent_of : Result ℕ Refusal → Questions.Lent
lent_of (Ok place) = record { code = Code.done; place = place }
lent_of (Err r) = unlent (number_of r)

-- the caller wants to lend x from one of the list, and is answered r
abbrev pub Asks : List ℕ → List ℕ → List ℕ → List ℕ → Name → Wish → Result ℕ Refusal → Type 0
Asks b l w list caller x r = AskedOf b l w (lent_of r ≡ unlent Code.ill_formed)
    (λ s. LendAsked s (name_of caller) list (wish_of x) (lent_of r)) (code_of r)
