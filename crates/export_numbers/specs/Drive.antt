-- A pick across C.
use Rattle.std.specs.Prelude.{ℕ, List, [], ◌∷◌, get_or}
use Rattle.product_drive.specs.declared.repeat.Repeat.{Repeat}
use Rattle.product_drive.specs.declared.repeat.Place.{Place}
use Rattle.product_drive.specs.declared.picked.Picked.{Picked}

-- how many numbers a request and a reply have
abbrev pub request_length : ℕ
request_length = 11

abbrev pub reply_length : ℕ
reply_length = 5

-- after the caller and the capability presented: N, C, W
unfoldable pub repeat_of : List ℕ → Repeat
repeat_of l = record { picks = get_or l 6 0; counts = get_or l 7 0; row = get_or l 8 0 }

-- then the next pick, the steps so far
unfoldable pub place_of : List ℕ → Place
place_of l = record { next = get_or l 9 0; steps = get_or l 10 0 }

-- the code, the take-up step, the next pick, the steps so far, how many bytes were read
unfoldable pub numbers_of : Picked → List ℕ
numbers_of r = r.code ∷ r.step ∷ r.place.next ∷ r.place.steps ∷ r.count ∷ []
