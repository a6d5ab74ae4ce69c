-- The answer of the pass over the capabilities.
use Rattle.std.specs.Prelude.{ℕ, List, Option}
use Rattle.std.specs.Option.{MatchOption}
use Rattle.layout.specs.Fields.{CapsFit, PasswordsUnique}
use Rattle.check_money.specs.Amount.{MastersAre}

-- what is asked of the capabilities alone
pub record AllCaps (l w : List ℕ) : Type 0 where
  pub fit : CapsFit l w
  pub passwords : PasswordsUnique l w

-- some amount where that holds, and then it is the masters' part of the total, whatever the bytes; none where it does not
abbrev pub Scanned : List ℕ → List ℕ → Option ℕ → Type 0
Scanned l w answer =
    MatchOption answer (AllCaps l w → ⊥) (λ masters. AllCaps l w × ((b : List ℕ) → MastersAre b l w masters))
