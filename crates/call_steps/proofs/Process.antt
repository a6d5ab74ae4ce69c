-- A process in the slices is one as the view tests it.
use Prim.Native.Nat.{ℕ}
use mathlib.Core.Path.{◌≡◌}
use mathlib.Core.Bool.{true}
use mathlib.Core.List.{List}
use Rattle.layout.specs.Rows.{flag_of, master_of}
use Rattle.layout.specs.View.{is_process}
use Rattle.layout.proofs.Shown.{process-yes}
use Rattle.call_steps.specs.Run.{Process}

pub is-process : {b l : List ℕ} {o : ℕ} → Process b l o → is_process (master_of l) (flag_of b) o ≡ true
is-process {b} {l} {o} p = process-yes (master_of l) (flag_of b) o p.live p.flag
