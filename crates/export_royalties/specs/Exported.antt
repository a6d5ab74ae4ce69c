-- A bill across C.
use Rattle.std.specs.Prelude.{ℕ, List}
use Rattle.kernel_step.specs.Slices.{Slices}
use Rattle.product_royalties.specs.Bills.{Bills}
use Rattle.call_steps.specs.Numbers.{name_at, capability_at}
use Rattle.export_numbers.specs.Royalties.{request_length, reply_length, count_of, picks_of, numbers_of}
use Rattle.export_numbers.specs.Crossing.{Crosses, Answered, Unanswered}

-- a bill is made, or nothing is written; code is what is returned, reply' and is are the slices at exit
abbrev pub Exported : (request : List ℕ) (code : ℕ) (reply reply' : List ℕ) (was is : Slices) → Type 0
Exported request code reply reply' was is = Crosses request_length reply_length request reply
    (Answered numbers_of
    (λ r. Bills (name_at request 0) (capability_at request 2) (count_of request) (picks_of request) r was is) code reply')
    (Unanswered code reply reply' was is)
