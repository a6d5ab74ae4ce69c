-- `top_bit`: a 32-bit word divided by 2,147,483,648 is 1 or 0.
use borrow.Author.Tests.{leb-true, leb-false}
use lib.Dec.{leb}
use native.Mathlib.Omega.{arith}
use Rattle.rules.proofs.Tests.{by_bool}
use Rattle.rules.specs.Limit as Limit
use Rattle.values.specs.Words.{top_bit}
use Rattle.values.proofs.password.top_bit.Goals as goal

pub returns : goal.returns
unfolding top_bit
returns c =
    let x = c.args.x in
    by_bool (leb Limit.top x)
    (λ h. rw (h, top_bit) (omega (arith, leb-true Limit.top x h)))
    (λ h. rw (h, top_bit) (omega (arith, leb-false Limit.top x h)))
