-- The lending question across C. Its list is a slice of its own, as the rules have it.
use Rattle.std.specs.Prelude.{ℕ, List, get_or, Result}
use Rattle.values.specs.declared.refusal.Refusal.{Refusal}
use Rattle.question_lend.specs.declared.Wish.{Wish}
use Rattle.call_steps.specs.Numbers.{window_at}
use Rattle.export_numbers.specs.Numbers.{told, number_row}

-- how many numbers a request and a reply have
abbrev pub request_length : ℕ
request_length = 7

abbrev pub reply_length : ℕ
reply_length = 2

-- after the caller: rights, start, end, sum, last day
abbrev pub wish_at : List ℕ → Wish
wish_at l = record { rights = get_or l 2 0; window = window_at l 3; sum = get_or l 5 0; last_day = get_or l 6 0 }

-- the code, the place
abbrev pub numbers_of : Result ℕ Refusal → List ℕ
numbers_of a = told number_row 0 a
