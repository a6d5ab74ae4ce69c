-- `moved` moves each end.
use Prim.Native.Nat.{ℕ}
use mathlib.Core.Path.{ap₂}
use Rattle.rules.specs.Store.{Window}
use Rattle.rules.specs.Calls.{moved}
use Rattle.values.proofs.window.Window.moved.Goals as goal

window_from : ℕ → ℕ → Window
window_from a b = record { start = a; end = b }

pub returns : goal.returns
unfolding moved window_from
returns c = ap₂ window_from c.nearest.ensures c.nearest-2.ensures
