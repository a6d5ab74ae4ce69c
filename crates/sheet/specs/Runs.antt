-- What holds of a run between two lines and between two turns.
use Rattle.std.specs.Prelude.{ℕ, ◌+◌, ◌≤◌, ◌≡◌, List, length}
use Rattle.script_play.specs.declared.workspace.Workspace.{Workspace}
use Rattle.script_play.specs.Workspace.{Works}
use Rattle.script_driver.specs.Stores.{Formed}
use Rattle.script_driver.specs.Contract as Contract
use Rattle.script_driver.specs.Contract.{LAST}
use Rattle.script_driver.specs.Turns.{HELD}
use Rattle.script_driver.specs.Parts.{store_in, run_of}
use Rattle.script_driver.specs.declared.Run.{Run}

-- the size of the input buffer
abbrev pub BUFFER : ℕ
BUFFER = 65536

-- the driver stands, in its working room
pub record Stands (w : Workspace) (held : List ℕ) (r : Run) : Type 0 where
  pub stands : Contract.Stands (store_in w) held (run_of r)
  pub working : Works w

-- a line, or more, or a part of one; its lines can be counted
pub record LineAsks (w : Workspace) (held window : List ℕ) (r : Run) : Type 0 where
  pub stands : Stands w held r
  pub counted : r.number + length window ≤ LAST

-- r at entry, r' at exit
pub record RunDone (w : Workspace) (held window : List ℕ) (r r' : Run) : Type 0 where
  pub stands : Stands w held r'
  pub number : r'.number ≤ r.number + length window

-- before the first turn
pub record Begins (w : Workspace) (held input : List ℕ) : Type 0 where
  pub formed : Formed (store_in w)
  pub size : length held ≡ HELD
  pub working : Works w
  pub input-size : length input ≡ BUFFER
