-- `place_after` begins the repeat anew after pick N.
use Prim.Native.Nat.{◌+◌}
use mathlib.Core.Path.{sym, ap, ◌∙◌}
use native.Mathlib.Omega.{arith}
use Rattle.product_drive.proofs.Ranges.{ranges, placed, at_next}
use Rattle.product_drive.proofs.Outcomes.{after_last, after-other}
use Rattle.product_drive.proofs.repeat.Repeat.place_after.Goals as goal

pub returns-then-place-self : goal.returns-then-place-self
returns-then-place-self c =
    let a = c.args in
    c.start.ensures ∙ sym (after_last a.self a.place c.if-place-self.true)

pub overflow_add-result : goal.overflow_add-result
overflow_add-result c =
    omega (arith, (placed c.args.self c.args.place c.requires).high, (ranges c.args.self c.args.place c.requires).picks)

pub up_to-requires : goal.up_to-requires
up_to-requires c = at_next c.args.self c.args.place c.requires

pub returns : goal.returns
returns c =
    let a = c.args in
    ap (λ k. record { next = a.place.next + 1; steps = k }) c.up_to.ensures
    ∙ sym (after-other a.self a.place c.if-place-self.false)
