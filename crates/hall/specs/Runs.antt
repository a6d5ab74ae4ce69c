-- Where the program stands between two turns, and what its parts keep of it.
use Rattle.std.specs.Prelude.{ℕ, ◌+◌, ◌≤◌, ◌≡◌, List, [], ◌++◌, length, take, drop, Option, Some, None}
use Rattle.script_play.specs.declared.workspace.Workspace.{Workspace}
use Rattle.script_play.specs.Workspace.{Works}
use Rattle.script_driver.specs.Stores.{Store, Formed, stores}
use Rattle.script_driver.specs.Contract as Contract
use Rattle.script_driver.specs.Contract.{LAST, ROOM, stage_of, held_in}
use Rattle.script_driver.specs.Turns.{HELD, At, Feeds}
use Rattle.script_driver.specs.declared.Run.{Run}
use Rattle.script_driver.specs.Parts.{store_in, run_of}

-- the size of the input and of the output buffer
abbrev pub BUFFER : ℕ
BUFFER = 65536

-- how many turns a program makes at most; the lines of so many windows can be counted
abbrev pub TURNS : ℕ
TURNS = 140737488355328

-- ---- the output buffer

pub record Placed (out : List ℕ) (x : Run) : Type 0 where
  pub size : length out ≡ BUFFER
  pub placed : x.at ≤ BUFFER

-- what is in the buffer and was not handed over to be written
abbrev pub pending : Run → List ℕ → List ℕ
pending x out = take x.at out

-- there is room for an answer and the end, and the run stands where it stood; `written` was handed over, and the rest is pending still
pub record Roomy (out : List ℕ) (x y : Run) : Type 0 where
  pub room : y.at + ROOM ≤ length out
  pub run : run_of y ≡ run_of x
  pub written : List ℕ
  pub kept : pending x out ≡ written ++ pending y out

-- ---- what is fed

-- where the script stands, and what is held
abbrev pub stage : Run → Store → At stores
stage x s = stage_of (run_of x) s

abbrev pub line : Run → List ℕ → List ℕ
line x held = held_in (run_of x) held

-- from stage g, where the bytes l are held, all of the window is fed, in one turn after another, with any room in each: the text comes
-- of it, and the script stands at g' and holds l'
pub data Comes : At stores → List ℕ → List ℕ → List ℕ → At stores → List ℕ → Type 0 where
  none : {g : At stores} {l : List ℕ} → Comes g l [] [] g l
  turn : {room n : ℕ} {g m g' : At stores} {l k l' window out text : List ℕ} → Feeds stores room g l window n out m k
      → Comes m k (drop n window) text g' l' → Comes g l window (out ++ text) g' l'

-- s, held, out, x at entry, s', held', out', y at exit: the window was fed, and of what was pending and the text that came after it `written`
-- was handed over, and the rest is pending
pub record Passed (s : Store) (held window out : List ℕ) (x : Run) (s' : Store) (held' out' : List ℕ) (y : Run) : Type 0 where
  pub text : List ℕ
  pub written : List ℕ
  pub comes : Comes (stage x s) (line x held) window text (stage y s') (line y held')
  pub kept : pending x out ++ text ≡ written ++ pending y out'

-- ---- between two turns

-- the driver stands, in its working room, and the output buffer has its size
pub record Stands (w : Workspace) (held out : List ℕ) (x : Run) : Type 0 where
  pub stands : Contract.Stands (store_in w) held (run_of x)
  pub working : Works w
  pub output : Placed out x
  pub counted : x.number + BUFFER ≤ LAST

-- and what is fed is no more than a buffer
pub record FeedsAll (w : Workspace) (held window out : List ℕ) (x : Run) : Type 0 where
  pub stands : Stands w held out x
  pub few : length window ≤ BUFFER

-- x at entry, y at exit: the driver stands again, and no more lines were counted than bytes were fed
pub record FedAll (w : Workspace) (held window out : List ℕ) (x y : Run) : Type 0 where
  pub stands : Contract.Stands (store_in w) held (run_of y)
  pub working : Works w
  pub output : Placed out y
  pub number : y.number ≤ x.number + length window

-- and all of the window was fed
pub record AllFed (s₀ : Store) (held₀ out₀ : List ℕ) (w : Workspace) (held window out : List ℕ) (x y : Run) : Type 0 where
  pub fed : FedAll w held window out x y
  pub passed : Passed s₀ held₀ window out₀ x (store_in w) held out y

-- and that is a front of the input buffer, so many bytes of what is there at exit
pub record Turned (s₀ : Store) (held₀ out₀ : List ℕ) (w : Workspace) (held input₀ input out : List ℕ) (x y : Run) : Type 0 where
  pub fed : FedAll w held input₀ out x y
  pub got : ℕ
  pub passed : Passed s₀ held₀ (take got input) out₀ x (store_in w) held out y

-- where a write failed, or the input is over, nothing goes on, and the store is well formed
abbrev pub MadeRoom : List ℕ → Run → Option Run → Type 0
MadeRoom out x (Some y) = Roomy out x y
MadeRoom out x None = Unit {0}

abbrev pub FedIf : Store → List ℕ → List ℕ → Workspace → List ℕ → List ℕ → List ℕ → Run → Option Run → Type 0
FedIf s₀ held₀ out₀ w held window out x (Some y) = AllFed s₀ held₀ out₀ w held window out x y
FedIf s₀ held₀ out₀ w held window out x None = Formed (store_in w)

abbrev pub TurnedIf : Store → List ℕ → List ℕ → Workspace → List ℕ → List ℕ → List ℕ → List ℕ → Run → Option Run → Type 0
TurnedIf s₀ held₀ out₀ w held input₀ input out x (Some y) = Turned s₀ held₀ out₀ w held input₀ input out x y
TurnedIf s₀ held₀ out₀ w held input₀ input out x None = Formed (store_in w)

-- before the first turn
pub record Begins (w : Workspace) (held input out : List ℕ) : Type 0 where
  pub formed : Formed (store_in w)
  pub size : length held ≡ HELD
  pub working : Works w
  pub input-size : length input ≡ BUFFER
  pub output-size : length out ≡ BUFFER
