-- `from_serial` meets its contract: a serial that fits a link is looked for from where `skip_groups` stopped.
use mathlib.Core.Path.{◌≡◌, subst}
use Prim.Native.Nat.{ℕ}
use native.Mathlib.Omega.{arith}
use Rattle.layout.specs.Layout as Layout
use Rattle.call_steps.specs.Tests.{SameFrom, cell_is}
use Rattle.call_steps.proofs.Finding.{same_skipped}
use Rattle.call_steps.proofs.groups.from_serial.Goals as goal

pub returns-in-Ok : goal.returns-in-Ok
returns-in-Ok c =
    let a = c.args in
    let skipped = c.skip_groups.ensures in
    let same : c.in-Ok.serial ≡ a.serial = c.in-Ok.ensures.1 in
    subst (λ (x : ℕ). SameFrom (cell_is Layout.SERIAL a.links.now x) 64 c.skip_groups.result) same
    (same_skipped Layout.SERIAL a.links.now c.in-Ok.serial 64 _ (omega arith) skipped.low skipped.passed)
