-- Refusals 5, 19 and 6 in the order in which the code tests them; k is the slot of the capability presented.
use Prim.Native.Nat.{ℕ}
use mathlib.Core.Path.{◌≡◌}
use mathlib.Core.Logic.{◌≢◌}
use mathlib.Core.Bool.{true, false}
use borrow.Author.Tests.{eq-eqb, ne_eqb}
use Rattle.rules.specs.Store.{State}
use Rattle.rules.specs.Rights.{has}
use Rattle.rules.specs.Code as Code
use Rattle.rules.specs.Refusals.{◌when◌, first, expired, showing}

module _ (s : State) (k right : ℕ) where
  pub showing-none : k ≡ 0 → first (showing s k right) ≡ Code.not_found
  unfolding showing first ◌when◌
  showing-none z = rw (eq-eqb k 0 z)

  module _ (nz : k ≢ 0) where
    pub showing-expired : expired s k ≡ true → first (showing s k right) ≡ Code.expired
    unfolding showing first ◌when◌
    showing-expired e = rw (ne_eqb k 0 nz, e)

    module _ (e : expired s k ≡ false) where
      pub showing-missing : has (s.cap k).rights right ≡ false → first (showing s k right) ≡ Code.right_missing
      unfolding showing first ◌when◌
      showing-missing h = rw (ne_eqb k 0 nz, e, h)

      pub showing-held : has (s.cap k).rights right ≡ true → first (showing s k right) ≡ Code.done
      unfolding showing first ◌when◌
      showing-held h = rw (ne_eqb k 0 nz, e, h)
