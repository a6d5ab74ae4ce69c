-- Every list of picks adds up, and no refused pick is paid for.
use mathlib.Core.Path.{subst}
use borrow.Author.Tests.{eqb-false}
use Rattle.rules.specs.Code as Code
use Rattle.product_drive.specs.Drive.{start}
use Rattle.product_drive.specs.Theorems.{Follow, last_place, steps_since, PicksAddUp, RefusedUnpaid}
use Rattle.product_drive.proofs.Adding.{stands-start, stands-last, takes-up, handed-back, split}
use Rattle.product_drive.proofs.Refusing.{refused-pick}

pub picks-add-up : PicksAddUp
unfolding PicksAddUp
picks-add-up p es f =
    let s = stands-last p start 0 es (stands-start p) f in
    record {
      steps = s.steps;
      whole = s.whole;
      done = λ front back e q h.
          let g = split p start front back e (subst (Follow p start) q f) in
          takes-up p (last_place start front) (steps_since 0 front) e (stands-last p start 0 front (stands-start p) g.0) h g.1;
      refused = λ front back e q h.
          let g = split p start front back e (subst (Follow p start) q f) in
          handed-back p (last_place start front) (steps_since 0 front) e h g.1;
    }

pub refused-unpaid : RefusedUnpaid
unfolding RefusedUnpaid
refused-unpaid p d e h refused = refused-pick h (eqb-false e.picked.code Code.done refused)
