-- What a check answers: true exactly when what it checks holds.
use Rattle.std.specs.Prelude.{◌≡◌, Bool, true}

-- r says exactly whether P holds
pub record Decides (P : Type 0) (r : Bool) : Type 0 where
  pub sound : r ≡ true → P
  pub complete : P → r ≡ true
