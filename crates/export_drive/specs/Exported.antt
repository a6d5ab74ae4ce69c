-- A pick across C.
use Rattle.std.specs.Prelude.{ℕ, ◌≡◌, List}
use Rattle.rules.specs.Code as Code
use Rattle.kernel_step.specs.Slices.{Slices}
use Rattle.product_drive.specs.Picks.{Picks}
use Rattle.call_steps.specs.Numbers.{name_at, capability_at}
use Rattle.export_numbers.specs.Drive.{request_length, reply_length, repeat_of, place_of, numbers_of}
use Rattle.export_numbers.specs.Crossing.{Crosses, Answered}

-- nothing is written; 2 comes before the store is looked at, as an argument out of range does in a pick
pub record Unanswered (code : ℕ) (reply reply' : List ℕ) (was is : Slices) : Type 0 where
  pub code_is : code ≡ Code.out_of_range
  pub reply-is : reply' ≡ reply
  pub slices-are : is ≡ was

-- a pick is made, or nothing is written; code is what is returned, reply' and is are the slices at exit
abbrev pub Exported : (request : List ℕ) (code : ℕ) (reply reply' : List ℕ) (was is : Slices) → Type 0
Exported request code reply reply' was is = Crosses request_length reply_length request reply
    (Answered numbers_of
    (λ r. Picks (name_at request 0) (capability_at request 2) (repeat_of request) (place_of request) r was is) code reply')
    (Unanswered code reply reply' was is)
