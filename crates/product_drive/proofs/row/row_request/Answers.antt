-- `row_request` reads within the window.
use Prim.Native.Nat.{◌+◌, ◌-◌, ◌*◌, ◌≤◌}
use mathlib.Core.Path.{ap, ◌∙◌}
use native.Mathlib.Omega.{arith}
use Rattle.call_steps.specs.Request.{read_request}
use Rattle.product_drive.specs.Drive.{row_of}
use Rattle.product_drive.proofs.Ranges.{placed}
use Rattle.product_drive.proofs.Rows.{one-row-more, rows-within}
use Rattle.product_drive.proofs.row.row_request.Goals as goal
use Rattle.product_drive.proofs.row.row_request.Goals.{Start}

low : (c : Start) → 1 ≤ c.args.place.next
low c = (placed c.args.repeat c.args.place c.requires.fact_1).low

-- the rows up to the one read, with it, end in the window
within : (c : Start) → (c.args.place.next - 1) * c.args.repeat.row + c.args.repeat.row ≤ c.args.window.end - c.args.window.start
within c = let a = c.args in
    rw (one-row-more a.place.next a.repeat.row ((placed c.args.repeat c.args.place c.requires.fact_1).low)) (rows-within a.window a.repeat a.place c.requires.fact_1 c.requires.fact_2)

pub overflow_sub-start : goal.overflow_sub-start
overflow_sub-start c = omega (arith, low (goal.at.overflow_sub-start c).Start)

pub overflow_mul-start : goal.overflow_mul-start
overflow_mul-start c = omega (arith, within (goal.at.overflow_mul-start c).Start)

pub overflow_add-start : goal.overflow_add-start
overflow_add-start c = omega (arith, within (goal.at.overflow_add-start c).Start)

pub overflow_add-row : goal.overflow_add-row
overflow_add-row c = omega (arith, within (goal.at.overflow_add-row c).Start)

pub returns : goal.returns
unfolding row_of
returns c =
    let a = c.args in
    let start = a.window.start + (a.place.next - 1) * a.repeat.row in
    c.read.ensures ∙ ap (λ e. read_request a.caller a.x (record { start = start; end = e }))
    (omega (arith, one-row-more a.place.next a.repeat.row (low (goal.at.returns c).Start)))
