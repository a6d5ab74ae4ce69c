-- The window question across C.
use Rattle.std.specs.Prelude.{ℕ, List, [], ◌∷◌, Result}
use Rattle.values.specs.declared.window.Window.{Window}
use Rattle.values.specs.declared.refusal.Refusal.{Refusal}
use Rattle.export_numbers.specs.Numbers.{told}

-- how many numbers a request and a reply have
abbrev pub request_length : ℕ
request_length = 6

abbrev pub reply_length : ℕ
reply_length = 3

-- after a refusal
abbrev pub nothing : Window
nothing = record { start = 0; end = 0 }

-- the code, the window's start and end
abbrev pub row : ℕ → Window → List ℕ
row code v = code ∷ v.start ∷ v.end ∷ []

abbrev pub numbers_of : Result Window Refusal → List ℕ
numbers_of a = told row nothing a
