-- A call across C: the request's numbers and the reply's, in the order of the structs' fields.
use Rattle.std.specs.Prelude.{ℕ, List, [], ◌∷◌, get_or}
use Rattle.call_steps.specs.declared.request.Request.{Request}
use Rattle.call_steps.specs.declared.request.Given.{Given}
use Rattle.call_steps.specs.Request.{Reply}
use Rattle.call_steps.specs.Numbers.{name_at, capability_at, window_at}
use Rattle.export_numbers.specs.Numbers.{told}

-- how many numbers a request and a reply have
abbrev pub request_length : ℕ
request_length = 22

abbrev pub reply_length : ℕ
reply_length = 9

-- the number, the caller, the capability presented, the name, size, flag, rights, the password drawn, the range, the
-- sum, the lock, the limit, the last day, the day
unfoldable pub request_of : List ℕ → Request
request_of l = record {
  number = get_or l 0 0;
  caller = name_at l 1;
  presented = capability_at l 3;
  name = name_at l 7;
  size = get_or l 9 0;
  flag = get_or l 10 0;
  rights = get_or l 11 0;
  drawn = get_or l 12 0 ∷ get_or l 13 0 ∷ [];
  range = window_at l 14;
  sum = get_or l 16 0;
  lock = get_or l 17 0 ∷ get_or l 18 0 ∷ [];
  limit = get_or l 19 0;
  last_day = get_or l 20 0;
  day = get_or l 21 0;
}

-- after a refusal
abbrev pub nothing : Given
nothing = record {
  count = 0;
  length = 0;
  capability = record { name = record { volume = 0; serial = 0 }; password = 0 ∷ 0 ∷ [] };
  moneyword = 0;
  sum = 0;
}

-- the code, a new capability, length, moneyword, sum, and how many bytes stand at the buffer's front
unfoldable pub row : ℕ → Given → List ℕ
row code x =
    code
    ∷ x.capability.name.volume
    ∷ x.capability.name.serial
    ∷ get_or x.capability.password 0 0
    ∷ get_or x.capability.password 1 0
    ∷ x.length
    ∷ x.moneyword
    ∷ x.sum
    ∷ x.count
    ∷ []

abbrev pub numbers_of : Reply → List ℕ
numbers_of r = told row nothing r
