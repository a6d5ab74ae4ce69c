-- `same_name` tests each part of SameName.
use native.Mathlib.Omega.{arith}
use Rattle.layout.proofs.Deciding.{no-it, as-well, differs}
use Rattle.check_objects.proofs.names.same_name.Goals as goal

pub returns-then-field : goal.returns-then-field
returns-then-field c = no-it (λ h. omega (arith, c.if-field.true, h.serial))

pub returns-then-field-2 : goal.returns-then-field-2
returns-then-field-2 c = no-it (λ h. omega (arith, c.if-field-2.true, h.volume))

pub returns-then-field-eq0 : goal.returns-then-field-eq0
returns-then-field-eq0 c = no-it (λ h. h.here (omega arith))

pub returns : goal.returns
returns c =
    as-well (differs c.field-6.result 0)
    (λ e. record {
      here = λ z. omega arith;
      there = λ z. e (omega arith);
      volume = omega arith;
      serial = omega arith;
    })
    (λ h z. h.there (omega arith))
