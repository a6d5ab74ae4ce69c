-- The count of passwords across C.
use Rattle.std.specs.Prelude.{ℕ, List, get_or, Result}
use Rattle.values.specs.declared.refusal.Refusal.{Refusal}
use Rattle.export_numbers.specs.Numbers.{told, number_row}

-- how many numbers a request and a reply have
abbrev pub request_length : ℕ
request_length = 5

abbrev pub reply_length : ℕ
reply_length = 2

-- after the process and the object: the right
abbrev pub right_of : List ℕ → ℕ
right_of l = get_or l 4 0

-- the code, the number
abbrev pub numbers_of : Result ℕ Refusal → List ℕ
numbers_of a = told number_row 0 a
