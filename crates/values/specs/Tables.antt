-- A table in call order: what it holds for the call with a number.
use Rattle.std.specs.Prelude.{ℕ, zero, suc, List, get_or}

-- the table at the number less one; for an unknown number, `none`
abbrev pub by_call : {X : Type 0} → List X → ℕ → X → X
by_call table zero none = none
by_call table (suc n) none = get_or table n none
