-- `holds_repeat` compares the lengths; a window that starts after its end is none of N × W bytes.
use Prim.Native.Nat.{◌-◌, ◌*◌}
use mathlib.Core.Path.{refl, sym, ◌∙◌}
use native.Mathlib.Omega.{arith}
use native.Mathlib.Nat.{mul-le-mul}
use borrow.Author.Tests.{ne_eqb, lt-leb}
use Rattle.product_drive.specs.Drive.{holds_repeat}
use Rattle.product_drive.proofs.Ranges.{in-range}
use Rattle.product_drive.proofs.row.holds_repeat.Goals as goal

pub overflow_mul-result : goal.overflow_mul-result
overflow_mul-result c =
    let r = in-range c.args.repeat c.requires in
    omega (arith, mul-le-mul r.picks r.row-high)

pub returns-then-window : goal.returns-then-window
unfolding holds_repeat
returns-then-window c = refl

pub returns-else-window : goal.returns-else-window
unfolding holds_repeat
returns-else-window c =
    let a = c.args in
    let r = in-range a.repeat c.requires in
    lt-leb a.window.start a.window.end c.if-window.false
    ∙ sym (ne_eqb (a.window.end - a.window.start) (a.repeat.picks * a.repeat.row)
    (λ e. omega (arith, e, c.if-window.false, mul-le-mul r.some r.row_low)))
