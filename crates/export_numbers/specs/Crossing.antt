-- What each function for C promises: where the request and the reply have their lengths the verified function is asked, and
-- its answer is written; else nothing is.
use Rattle.std.specs.Prelude.{ℕ, ◌≡◌, List, get_or}
use Rattle.kernel_step.specs.Slices.{Slices}
use Rattle.export_numbers.specs.Numbers.{Fitting, Unfit}

-- it is made, or not, by the lengths of the request and the reply
pub record Crosses (asks tells : ℕ) (request reply : List ℕ) (Made Kept : Type 0) : Type 0 where
  pub made : Fitting asks tells request reply → Made
  pub kept : (Fitting asks tells request reply → ⊥) → Kept

-- the verified function gives an answer, which it has promised; its numbers are the reply, and the first is returned
pub record Answered {A : Type 0} (numbers_of : A → List ℕ) (Promised : A → Type 0) (code : ℕ) (reply' : List ℕ) : Type 0 where
  pub answer : A
  pub promised : Promised answer
  pub numbers : reply' ≡ numbers_of answer
  pub code_is : code ≡ get_or reply' 0 0

-- nothing is written
pub record Unanswered (code : ℕ) (reply reply' : List ℕ) (was is : Slices) : Type 0 where
  pub code_is : Unfit was.bytes was.links was.words code
  pub reply-is : reply' ≡ reply
  pub slices-are : is ≡ was

-- the same of a question, to which the store is lent for reading alone
pub record Untold (b l w : List ℕ) (code : ℕ) (reply reply' : List ℕ) : Type 0 where
  pub code_is : Unfit b l w code
  pub reply-is : reply' ≡ reply
