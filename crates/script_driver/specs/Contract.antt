-- What the code promises: a turn and the end of the input on three slices, a buffer for what is held, and room for output.
-- `Run` and `Fed` stand for the code's structs of these fields; what is left in the working room that is lent is open.
use Rattle.std.specs.Prelude.{ℕ, zero, suc, ◌+◌, ◌-◌, ◌≤◌, ◌≡◌, Bool, true, false, List, [], ◌++◌, length, take, drop}
use Rattle.script_text.specs.Pasted.{Wrote}
use Rattle.script_driver.specs.Turns.{opening, closed, playing, At, HELD, Feeds, Ends}
use Rattle.script_driver.specs.Stores.{Store, Formed, stores}

-- line numbers have 64 bits
abbrev pub LAST : ℕ
LAST = 18446744073709551615

-- between two turns
pub record Run : Type 0 where
  -- the next line's number; 0 before line one
  pub number : ℕ
  -- line one was bad
  pub bad : Bool
  -- so many bytes at the front of the buffer `held` belong to a line that has not ended
  pub count : ℕ

-- a turn's answer: the run after it, the bytes of the window that were taken, the place after what was written
pub record Fed : Type 0 where
  pub run : Run
  pub taken : ℕ
  pub at : ℕ

abbrev pub begun : Run
begun = record { number = 0; bad = false; count = 0 }

unfoldable pub stage_by : ℕ → Bool → Store → At stores
stage_by n true s = closed
stage_by zero false s = opening
stage_by (suc n) false s = playing (suc n) s

-- where the script stands, and what is held
abbrev pub stage_of : Run → Store → At stores
stage_of r s = stage_by r.number r.bad s

abbrev pub held_in : Run → List ℕ → List ℕ
held_in r held = take r.count held

-- between two turns. Before line one the slices are any well-formed store
pub record Stands (s : Store) (held : List ℕ) (r : Run) : Type 0 where
  pub formed : Formed s
  pub size : length held ≡ HELD
  pub few : r.count ≤ HELD

-- ---- a turn

-- line numbers grow by no more than the bytes taken
pub record FeedAsks (s : Store) (held : List ℕ) (r : Run) (window out : List ℕ) (at : ℕ) : Type 0 where
  pub stands : Stands s held r
  pub place : at ≤ length out
  pub counted : r.number + length window ≤ LAST

-- s, held, out at entry, s', held', out' at exit
pub record Feeding (s : Store) (held : List ℕ) (r : Run) (window out : List ℕ) (at : ℕ)
    (s' : Store) (held' out' : List ℕ) (x : Fed) : Type 0 where
  pub text : List ℕ
  pub feeds : Feeds stores (length out - at) (stage_of r s) (held_in r held) window x.taken text
      (stage_of x.run s') (held_in x.run held')
  pub wrote : Wrote out at text out' x.at
  pub stands : Stands s' held' x.run
  pub place : x.at ≤ length out'
  pub number : x.run.number ≤ r.number + x.taken

-- ---- the end of the input

-- room for an answer and for the totals
abbrev pub ROOM : ℕ
ROOM = 2916

pub record FinishAsks (s : Store) (held : List ℕ) (r : Run) (out : List ℕ) (at : ℕ) : Type 0 where
  pub stands : Stands s held r
  pub counted : r.number + 1 ≤ LAST
  pub room : at + ROOM ≤ length out

pub record Finishing (s : Store) (held : List ℕ) (r : Run) (out : List ℕ) (at : ℕ) (s' : Store) (out' : List ℕ) (x : ℕ) : Type 0 where
  pub text : List ℕ
  pub ends : Ends stores (stage_of r s) (held_in r held) text
  pub wrote : Wrote out at text out' x
  pub formed : Formed s'
  pub place : x ≤ length out'

-- ---- a program that reads, feeds and writes

-- what it does from here on: `rest` was read and not taken; in a turn `more` is read after it, or nothing, a front of what is there is
-- handed over as the window, and what came into `out` from place `at` on is written. `input` is all that is read, `text` all that is written.
pub data Program : Store → List ℕ → Run → List ℕ → List ℕ → List ℕ → Type 0 where
  end : {s s' : Store} {held out out' : List ℕ} {r : Run} {at x : ℕ} (p : Finishing s held r out at s' out' x)
      → Program s held r [] [] p.text
  turn : (more behind : List ℕ) {s s' : Store} {held held' rest window out out' input text : List ℕ} {r : Run} {at : ℕ} {x : Fed}
      → rest ++ more ≡ window ++ behind
      → (p : Feeding s held r window out at s' held' out' x)
      → Program s' held' x.run (drop x.taken window ++ behind) input text
      → Program s held r rest (more ++ input) (p.text ++ text)
