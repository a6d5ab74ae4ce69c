-- `bucket_of` is `bucket`, and is in the table.
use native.Mathlib.Omega.{arith}
use mathlib.Core.Path.{refl}
use Rattle.check_passwords.specs.Passwords.{bucket}
use Rattle.check_passwords.proofs.bucket_of.Goals as goal

pub returns : goal.returns
unfolding bucket
returns c = (rw c.from.ensures refl, omega arith)
