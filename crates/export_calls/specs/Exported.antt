-- A call across C.
use Rattle.std.specs.Prelude.{ℕ, List}
use Rattle.kernel_step.specs.Slices.{Slices}
use Rattle.kernel_call.specs.Calls.{Calls}
use Rattle.export_numbers.specs.Call.{request_length, reply_length, request_of, numbers_of}
use Rattle.export_numbers.specs.Crossing.{Crosses, Answered, Unanswered}

-- a call is made, or nothing is written; code is what is returned, reply' and is are the slices at exit
abbrev pub Exported : (request text : List ℕ) (code : ℕ) (reply reply' : List ℕ) (was is : Slices) → Type 0
Exported request text code reply reply' was is = Crosses request_length reply_length request reply
    (Answered numbers_of (λ r. Calls (request_of request) text r was is) code reply')
    (Unanswered code reply reply' was is)
