-- `object_fits` tests each part of ObjectFits where the slot holds an object.
use native.Mathlib.Omega.{arith}
use Rattle.layout.proofs.Deciding.{no-it, as-well}
use Rattle.check_objects.proofs.fit.object_fits.Goals as goal

pub returns-then-volume-gt-VOLUMES : goal.returns-then-volume-gt-VOLUMES
returns-then-volume-gt-VOLUMES c = no-it (λ h. omega (arith, (h (λ z. omega arith)).volume))

pub returns-then-size-gt-SIZES : goal.returns-then-size-gt-SIZES
returns-then-size-gt-SIZES c = no-it (λ h. omega (arith, (h (λ z. omega arith)).size))

pub returns-then-flag-gt1 : goal.returns-then-flag-gt1
returns-then-flag-gt1 c = no-it (λ h. omega (arith, (h (λ z. omega arith)).flag))

pub returns : goal.returns
returns c =
    as-well c.process_fits.ensures
    (λ q live. record { volume = omega arith; size = omega arith; flag = omega arith; process = λ nz. q })
    (λ h. (h (λ z. omega arith)).process (λ z. omega arith))
