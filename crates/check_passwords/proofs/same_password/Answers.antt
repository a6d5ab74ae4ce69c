-- `same_password` tests each part of SamePassword.
use native.Mathlib.Omega.{arith}
use Rattle.layout.proofs.Deciding.{no-it, as-well, equal, differs}
use Rattle.check_passwords.proofs.same_password.Goals as goal

pub returns-then-field : goal.returns-then-field
returns-then-field c = no-it (λ h. omega (arith, c.if-field.true, h.p1))

pub returns-then-owner-ne0 : goal.returns-then-owner-ne0
returns-then-owner-ne0 c =
    as-well (equal c.field-owner.result c.field-then-owner-ne0.result)
    (λ e. record {
      here = λ z. omega arith;
      there = λ z. omega arith;
      owner = omega arith;
      p1 = omega arith;
    })
    (λ h. omega (arith, h.owner))

pub returns-else-owner-ne0 : goal.returns-else-owner-ne0
returns-else-owner-ne0 c =
    as-well (differs c.field-owner.result 0)
    (λ e. absurd (e (omega arith)))
    (λ h z. h.here (omega arith))
