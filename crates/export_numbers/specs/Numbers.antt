-- A request and a reply as they cross to C, slices of 32-bit numbers: their lengths, and the code at a reply's front.
use Rattle.std.specs.Prelude.{ℕ, ◌≡◌, List, [], ◌∷◌, length, Ok, Err, Result}
use Rattle.rules.specs.Code as Code
use Rattle.values.specs.declared.refusal.Refusal.{Refusal}
use Rattle.values.specs.Refusals.{number_of}
use Rattle.layout.specs.WellFormed.{WellFormed}

-- a request and a reply have the lengths that they are to have
pub record Lengths (asks tells request reply : ℕ) : Type 0 where
  pub asks-is : request ≡ asks
  pub tells_is : reply ≡ tells

abbrev pub Fitting : ℕ → ℕ → List ℕ → List ℕ → Type 0
Fitting asks tells request reply = Lengths asks tells (length request) (length reply)

-- the answer where they have others, in 01's order: "1 the store is not well formed; 2 .. an argument out of range"
pub record Unfit (b l w : List ℕ) (code : ℕ) : Type 0 where
  pub unsound : (WellFormed b l w → ⊥) → code ≡ Code.ill_formed
  pub sound : WellFormed b l w → code ≡ Code.out_of_range

-- a reply's numbers: 0 and what is given, or the refusal's number and nothing; a row has the code at its front
abbrev pub told : {A : Type 0} → (ℕ → A → List ℕ) → A → Result A Refusal → List ℕ
told row nothing (Ok x) = row Code.done x
told row nothing (Err r) = row (number_of r) nothing

-- the code, a number
abbrev pub number_row : ℕ → ℕ → List ℕ
number_row code n = code ∷ n ∷ []
