-- Three slices as what a script's lines are played on: what the contracts of `start`, `play_line` and `totals_line` say of them.
use Rattle.std.specs.Prelude.{ℕ, ◌≡◌, true, false, List, ◌∷◌}
use Rattle.rules.specs.Store.{State}
use Rattle.rules.specs.Rights.{op}
use Rattle.rules.specs.Call.{Answer, Choice}
use Rattle.rules.specs.Demand.{Allowed}
use Rattle.rules.specs.Script.{nth, line_fits, call_of, answer_of}
use Rattle.layout.specs.View.{view}
use Rattle.layout.specs.WellFormed.{WellFormed}
use Rattle.kernel_step.specs.Run.{step_run}
use Rattle.script_text.specs.Numeral.{line_of}
use Rattle.script_answers.specs.Ends.{totals_line}
use Rattle.script_play.specs.Plays.{line_with, Unchanged}
use Rattle.script_play.specs.Starts.{Begun}
use Rattle.script_driver.specs.Machine.{Machine}

pub record Store : Type 0 where
  pub bytes : List ℕ
  pub links : List ℕ
  pub words : List ℕ

abbrev pub state_of : Store → State
state_of s = view s.bytes s.links s.words

abbrev pub Formed : Store → Type 0
Formed s = WellFormed s.bytes s.links s.words

-- `play`'s `Played` without the place where the answer is written, and with the exact run beside the rules
pub record Played (k : ℕ) (s : Store) (ns out : List ℕ) (s' : Store) : Type 0 where
  pub choice : Choice
  pub allowed : line_fits (op (nth ns 0)) ns ≡ true → Allowed (state_of s) (call_of (op (nth ns 0)) ns) choice
  pub answer : Answer
  pub rules : line_with choice (state_of s) ns ≡ record { answer = answer; after = state_of s' }
  -- and they are the exact run's, which says what is taken where 01 leaves it open
  pub exact : line_fits (op (nth ns 0)) ns ≡ true → step_run s.bytes s.links s.words (call_of (op (nth ns 0)) ns)
      ≡ record { answer = answer; bytes = s'.bytes; links = s'.links; words = s'.words }
  -- a bad line changes no cell
  pub bad : line_fits (op (nth ns 0)) ns ≡ false
      → Unchanged s.bytes s.links s.words s'.bytes s'.links s'.words
  pub formed : Formed s'
  pub text : out ≡ line_of (k ∷ answer_of (op (nth ns 0)) answer)

abbrev pub stores : Machine
stores = record {
  Store = Store;
  Begins = λ ns s. Begun ns s.bytes s.links s.words;
  Plays = Played;
  Totals = λ s out. out ≡ totals_line (state_of s);
}
