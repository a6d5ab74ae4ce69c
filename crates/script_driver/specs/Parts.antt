-- The contracts of the parts of a turn and of the end of the input.
use Rattle.std.specs.Prelude.{ℕ, ◌+◌, ◌≤◌, ◌≡◌, Bool, List, [], ◌++◌, length, take}
use Rattle.script_text.specs.Lines.{most_numbers}
use Rattle.script_text.specs.Pasted.{Wrote}
use Rattle.script_answers.specs.Room.{TOTALS}
use Rattle.script_play.specs.declared.workspace.Workspace.{Workspace}
use Rattle.script_driver.specs.Turns.{opening, Line, Closes, HELD, ANSWER, cut}
use Rattle.script_driver.specs.Stores.{Store, Formed, stores}
use Rattle.script_driver.specs.Contract as Contract
use Rattle.script_driver.specs.Contract.{LAST, stage_by, stage_of}
use Rattle.script_driver.specs.declared.Run.{Run}
use Rattle.script_driver.specs.declared.Fed.{Fed}

abbrev pub store : List ℕ → List ℕ → List ℕ → Store
store b l w = record { bytes = b; links = l; words = w }

-- the store that is lent with what a script is played in
abbrev pub store_in : Workspace → Store
store_in w = store w.bytes.now w.links.now w.words.now

abbrev pub run_of : Run → Contract.Run
run_of r = record { number = r.number; bad = r.bad; count = r.count }

abbrev pub fed_of : Fed → Contract.Fed
fed_of r = record { run = run_of r.run; taken = r.taken; at = r.run.at }

-- ---- what is held

pub record HoldAsks (held : List ℕ) (count : ℕ) : Type 0 where
  pub size : length held ≡ HELD
  pub few : count ≤ HELD

pub record Holds (held : List ℕ) (count : ℕ) (part held' : List ℕ) (r : ℕ) : Type 0 where
  pub is : take r held' ≡ cut (take count held ++ part)
  pub few : r ≤ HELD

-- ---- a line

-- line one, where none was played
pub record FirstAsks (s : Store) (ns : List ℕ) : Type 0 where
  pub formed : Formed s
  pub numbers : most_numbers ≤ length ns

pub record FirstLine (line : List ℕ) (at : ℕ) (s' : Store) (r : Run) : Type 0 where
  pub is : Line stores opening line [] (stage_of (run_of r) s')
  pub formed : Formed s'
  pub counted : r.number ≤ 1
  pub none : r.count ≡ 0
  pub place : r.at ≡ at

pub record LineAsks (s : Store) (out : List ℕ) (at number : ℕ) : Type 0 where
  pub formed : Formed s
  pub room : at + ANSWER ≤ length out
  pub counted : number + 1 ≤ LAST

-- r is the run after it, which holds nothing
pub record OneLine (s : Store) (line out : List ℕ) (at number : ℕ) (bad : Bool) (s' : Store) (out' : List ℕ) (r : Run) : Type 0 where
  pub text : List ℕ
  pub is : Line stores (stage_by number bad s) line text (stage_of (run_of r) s')
  pub wrote : Wrote out at text out' r.at
  pub few : length text ≤ ANSWER
  pub formed : Formed s'
  pub counted : r.number ≤ number + 1
  pub none : r.count ≡ 0

-- a line whose first bytes are held
pub record EndedAsks (s : Store) (held out : List ℕ) (run : Run) : Type 0 where
  pub line : LineAsks s out run.at run.number
  pub hold : HoldAsks held run.count

pub record EndedLine (s : Store) (held part out : List ℕ) (run : Run) (s' : Store) (held' out' : List ℕ) (r : Run) : Type 0 where
  pub one : OneLine s (cut (take run.count held ++ part)) out run.at run.number run.bad s' out' r
  pub size : length held' ≡ HELD

-- ---- the end of the input

pub record EndAsks (s : Store) (out : List ℕ) (at : ℕ) : Type 0 where
  pub formed : Formed s
  pub room : at + TOTALS ≤ length out

pub record EndPut (s : Store) (out : List ℕ) (run : Run) (out' : List ℕ) (r : ℕ) : Type 0 where
  pub text : List ℕ
  pub closes : Closes stores (stage_of (run_of run) s) text
  pub wrote : Wrote out run.at text out' r
  pub few : length text ≤ TOTALS
