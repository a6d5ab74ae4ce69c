-- `step_at` goes by the steps so far, which are those up to the pick before.
use Prim.Native.Nat.{◌-◌}
use native.Mathlib.Omega.{arith}
use Rattle.product_drive.specs.Drive.{step_at}
use Rattle.product_drive.proofs.TakeUp.{up-grows}
use Rattle.product_drive.proofs.Ranges.{ranges, placed, at_next}
use Rattle.product_drive.proofs.repeat.Repeat.step_at.Goals as goal

pub up_to-requires : goal.up_to-requires
up_to-requires c = at_next c.args.self c.args.place c.requires

pub overflow_sub-result : goal.overflow_sub-result
overflow_sub-result c =
    let p = c.args.self in
    let d = c.args.place in
    let grows = up-grows p (ranges p d c.requires).some (d.next - 1) d.next (omega arith) in
    omega (arith, c.up_to.ensures, (placed p d c.requires).steps, grows)

pub returns : goal.returns
unfolding step_at
returns c = rw (c.up_to.ensures, (placed c.args.self c.args.place c.requires).steps)
