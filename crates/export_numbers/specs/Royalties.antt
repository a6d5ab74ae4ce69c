-- A bill across C.
use Rattle.std.specs.Prelude.{ℕ, List, [], ◌∷◌, get_or}
use Rattle.product_royalties.specs.declared.billed.Billed.{Billed}

-- how many numbers a request and a reply have
abbrev pub request_length : ℕ
request_length = 8

abbrev pub reply_length : ℕ
reply_length = 3

-- after the caller and the capability presented: the count, the picks
abbrev pub count_of : List ℕ → ℕ
count_of l = get_or l 6 0

abbrev pub picks_of : List ℕ → ℕ
picks_of l = get_or l 7 0

-- the code, the count handed back, the sum taken
unfoldable pub numbers_of : Billed → List ℕ
numbers_of r = r.code ∷ r.count ∷ r.sum ∷ []
