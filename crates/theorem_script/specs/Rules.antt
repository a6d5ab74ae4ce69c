-- 01's rules as what a script's lines are played on: with the free slots that `output` takes, and with any.
use Rattle.std.specs.Prelude.{ℕ, ◌≡◌, true, List, ◌∷◌}
use Rattle.rules.specs.Store.{State, fresh}
use Rattle.rules.specs.Rights.{op}
use Rattle.rules.specs.Call.{Outcome, Choice}
use Rattle.rules.specs.Demand.{Allowed}
use Rattle.rules.specs.Script.{nth, line_fits, call_of, answer_of, line_rule}
use Rattle.script_text.specs.Numeral.{line_of}
use Rattle.script_answers.specs.Ends.{totals_line}
use Rattle.script_play.specs.Plays.{line_with}
use Rattle.script_play.specs.Starts.{password_in}
use Rattle.script_driver.specs.Machine.{Machine}

-- the line with number k comes to r: what it writes, and the store after it
pub record ComesTo (k : ℕ) (ns : List ℕ) (r : Outcome) (out : List ℕ) (s' : State) : Type 0 where
  pub text : out ≡ line_of (k ∷ answer_of (op (nth ns 0)) r.answer)
  pub after : s' ≡ r.after

-- its call takes free slots, any
pub record Takes (k : ℕ) (s : State) (ns out : List ℕ) (s' : State) : Type 0 where
  pub choice : Choice
  pub allowed : line_fits (op (nth ns 0)) ns ≡ true → Allowed s (call_of (op (nth ns 0)) ns) choice
  pub comes : ComesTo k ns (line_with choice s ns) out s'

abbrev pub rules_by : (ℕ → State → List ℕ → List ℕ → State → Type 0) → Machine
rules_by plays = record {
  Store = State;
  Begins = λ ns s. s ≡ fresh (nth ns 0) (password_in ns);
  Plays = plays;
  Totals = λ s out. out ≡ totals_line s;
}

-- what `output` says
abbrev pub rules : Machine
rules = rules_by (λ k s ns out s'. ComesTo k ns (line_rule s ns) out s')

-- "Left open are which free one is taken"
abbrev pub rules_free : Machine
rules_free = rules_by Takes
