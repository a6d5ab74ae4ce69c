-- The refusals of the code as the rules' numbers, and what a result says: 0 where it is done, and else the refusal's number.
use Rattle.std.specs.Prelude.{ℕ, Ok, Err, Result}
use Rattle.rules.specs.Code as Code
use Rattle.values.specs.declared.refusal.Refusal.{Refusal}
use Rattle.values.specs.declared.refusal.Refusal.TheVariants.{IllFormed, OutOfRange, NotRunning, CannotPay, NotFound, RightMissing, OutsideWindow, NotProcess, TooLittle, Overflows, NotMaster, Taken, NoSpace, BoxFull, BoxEmpty, NotRevivable, WrongLength, CountPasses, Expired, EarlierDay, NoneWillDo}

abbrev pub number_of : Refusal → ℕ
number_of IllFormed = Code.ill_formed
number_of OutOfRange = Code.out_of_range
number_of NotRunning = Code.not_running
number_of CannotPay = Code.cannot_pay
number_of NotFound = Code.not_found
number_of RightMissing = Code.right_missing
number_of OutsideWindow = Code.outside_window
number_of NotProcess = Code.not_process
number_of TooLittle = Code.too_little
number_of Overflows = Code.overflows
number_of NotMaster = Code.not_master
number_of Taken = Code.taken
number_of NoSpace = Code.no_space
number_of BoxFull = Code.box_full
number_of BoxEmpty = Code.box_empty
number_of NotRevivable = Code.not_revivable
number_of WrongLength = Code.wrong_length
number_of CountPasses = Code.count_passes
number_of Expired = Code.expired
number_of EarlierDay = Code.earlier_day
number_of NoneWillDo = Code.none_will_do

abbrev pub code_of : {A : Type 0} → Result A Refusal → ℕ
code_of (Ok _) = Code.done
code_of (Err r) = number_of r
