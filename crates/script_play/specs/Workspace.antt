-- What a script is played in, as the code lends it.
use Rattle.std.specs.Prelude.{ℕ, ◌≡◌, Bool, List, length}
use Rattle.layout.specs.WellFormed.{Sized}
use Rattle.script_play.specs.declared.workspace.Workspace.{Workspace}
use Rattle.script_play.specs.Plays.{Working, PlayAsks, Played, Plays}
use Rattle.script_play.specs.Starts.{Starts}

-- the working room has the sizes that a line asks
abbrev pub Works : Workspace → Type 0
Works w = Working w.numbers.now w.text.now w.buffer.now w.scratch.now

-- the store in it is well formed, and the output has room for an answer
abbrev pub Asks : Workspace → List ℕ → ℕ → Type 0
Asks w out at = PlayAsks w.bytes.now w.links.now w.words.now out at

-- w at entry, w' at exit: `Played` and `Plays` of the store in them
abbrev pub PlayedIn : List ℕ → ℕ → Workspace → Workspace → List ℕ → ℕ → List ℕ → ℕ → Type 0
PlayedIn ns number w w' out at out' r =
    Played ns number w.bytes.now w.links.now w.words.now w'.bytes.now w'.links.now w'.words.now out at out' r

abbrev pub PlaysIn : List ℕ → ℕ → Workspace → Workspace → List ℕ → ℕ → List ℕ → ℕ → Type 0
PlaysIn line number w w' out at out' r =
    Plays line number w.bytes.now w.links.now w.words.now w'.bytes.now w'.links.now w'.words.now out at out' r

-- the store in it has its size
abbrev pub SizedIn : Workspace → Type 0
SizedIn w = Sized w.bytes.now w.links.now w.words.now

-- w at entry, w' at exit: `Starts` of the store in them
abbrev pub StartsIn : List ℕ → Workspace → Workspace → Bool → Type 0
StartsIn line w w' r = Starts line w.bytes.now w.links.now w.words.now w'.bytes.now w'.links.now w'.words.now r

-- what is lent for a call is as it was
pub record LentUnchanged (w w' : Workspace) : Type 0 where
  pub text : w'.text.now ≡ w.text.now
  pub buffer : w'.buffer.now ≡ w.buffer.now
  pub scratch : w'.scratch.now ≡ w.scratch.now

-- the same slices are lent, each as long as it was
pub record StaysLent (w w' : Workspace) : Type 0 where
  pub bytes : w'.bytes.ghost_name ≡ w.bytes.ghost_name
  pub links : w'.links.ghost_name ≡ w.links.ghost_name
  pub words : w'.words.ghost_name ≡ w.words.ghost_name
  pub numbers : w'.numbers.ghost_name ≡ w.numbers.ghost_name
  pub text : w'.text.ghost_name ≡ w.text.ghost_name
  pub buffer : w'.buffer.ghost_name ≡ w.buffer.ghost_name
  pub scratch : w'.scratch.ghost_name ≡ w.scratch.ghost_name
  pub bytes-length : length w'.bytes.now ≡ length w.bytes.now
  pub links-length : length w'.links.now ≡ length w.links.now
  pub words-length : length w'.words.now ≡ length w.words.now
  pub numbers-length : length w'.numbers.now ≡ length w.numbers.now
  pub text-length : length w'.text.now ≡ length w.text.now
  pub buffer-length : length w'.buffer.now ≡ length w.buffer.now
  pub scratch-length : length w'.scratch.now ≡ length w.scratch.now
