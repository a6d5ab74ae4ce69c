-- `process_fits` tests each part of ProcessFits.
use native.Mathlib.Omega.{arith}
use Rattle.layout.proofs.Deciding.{no-it, as-well}
use Rattle.check_objects.proofs.fit.process_fits.Goals as goal

pub returns-then-suspended-gt1 : goal.returns-then-suspended-gt1
returns-then-suspended-gt1 c = no-it (λ h. omega (arith, h.suspended))

pub returns-then-waiting-gt1 : goal.returns-then-waiting-gt1
returns-then-waiting-gt1 c = no-it (λ h. omega (arith, h.waiting))

pub returns-then-terminated-gt1 : goal.returns-then-terminated-gt1
returns-then-terminated-gt1 c = no-it (λ h. omega (arith, h.terminated))

pub returns-then-lock-ge-TOP : goal.returns-then-lock-ge-TOP
returns-then-lock-ge-TOP c = no-it (λ h. omega (arith, h.lock))

pub returns-then-count-gt-MAX_MESSAGES : goal.returns-then-count-gt-MAX_MESSAGES
returns-then-count-gt-MAX_MESSAGES c = no-it (λ h. omega (arith, h.count))

pub returns : goal.returns
returns c =
    as-well c.lengths_fit.ensures
    (λ q. record {
      suspended = omega arith;
      waiting = omega arith;
      terminated = omega arith;
      lock = omega arith;
      count = omega arith;
      length = q;
    })
    (λ h. h.length)
