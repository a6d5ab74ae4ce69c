-- A program by the contracts is a list of turns.
use Prim.Native.Nat.{ℕ}
use mathlib.Core.List.{List, []}
use Rattle.script_driver.specs.Turns.{Turns, Script}
use Rattle.script_driver.specs.Stores.{Store, stores}
use Rattle.script_driver.specs.Contract.{Run, begun, stage_by, stage_of, held_in, Program, end, turn}

program-turns : {s : Store} {held rest input text : List ℕ} {r : Run} → Program s held r rest input text
    → Turns stores (stage_of r s) (held_in r held) rest input text
program-turns (end p) = Turns.end p.ends
program-turns (turn more behind e p rest) = Turns.turn more behind e p.feeds (program-turns rest)

-- from the beginning
pub program-script : {s : Store} {held input text : List ℕ} → Program s held begun [] input text → Script stores input text
unfolding stage_by
program-script p = program-turns p
