-- The free questions across C.
use Rattle.std.specs.Prelude.{ℕ, List}
use Rattle.question_window.specs.Asks as Window
use Rattle.question_count.specs.Asks as Count
use Rattle.question_lend.specs.Asks as Lend
use Rattle.call_steps.specs.Numbers.{name_at, capability_at}
use Rattle.export_numbers.specs.Window as WindowNumbers
use Rattle.export_numbers.specs.Count as CountNumbers
use Rattle.export_numbers.specs.Lend as LendNumbers
use Rattle.export_numbers.specs.Crossing.{Crosses, Answered, Untold}

-- the window: the caller and the capability presented are the request's numbers, in this order
abbrev pub WindowTold : (b l w request : List ℕ) (code : ℕ) (reply reply' : List ℕ) → Type 0
WindowTold b l w request code reply reply' =
    Crosses WindowNumbers.request_length WindowNumbers.reply_length request reply
    (Answered WindowNumbers.numbers_of (λ a. Window.Asks b l w (name_at request 0) (capability_at request 2) a) code reply')
    (Untold b l w code reply reply')

-- the count of passwords: the process, the object and the right
abbrev pub CountTold : (b l w request : List ℕ) (code : ℕ) (reply reply' : List ℕ) → Type 0
CountTold b l w request code reply reply' =
    Crosses CountNumbers.request_length CountNumbers.reply_length request reply
    (Answered CountNumbers.numbers_of
    (λ a. Count.Asks b l w (name_at request 0) (name_at request 2) (CountNumbers.right_of request) a) code reply')
    (Untold b l w code reply reply')

-- what can be lent from the list: the caller and the wish
abbrev pub LendTold : (b l w list request : List ℕ) (code : ℕ) (reply reply' : List ℕ) → Type 0
LendTold b l w list request code reply reply' =
    Crosses LendNumbers.request_length LendNumbers.reply_length request reply
    (Answered LendNumbers.numbers_of (λ a. Lend.Asks b l w list (name_at request 0) (LendNumbers.wish_at request) a) code reply')
    (Untold b l w code reply reply')
