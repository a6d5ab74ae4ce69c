-- A line after line one: 01, "A bad line .. is answered 2 and changes nothing. Output for each line after line one: its
-- number .., 0 or the refusal, then results".
use Rattle.std.specs.Prelude.{ℕ, ◌+◌, ◌≤◌, ◌≡◌, true, false, List, ◌∷◌, length, take, Option, Some, None}
use Rattle.rules.specs.Store.{State}
use Rattle.rules.specs.Rights.{op}
use Rattle.rules.specs.Limit as Limit
use Rattle.rules.specs.Code as Code
use Rattle.rules.specs.Call.{Answer, Outcome, Choice, code}
use Rattle.rules.specs.Rule.{rule}
use Rattle.rules.specs.Demand.{Allowed}
use Rattle.rules.specs.Script.{nth, line_fits, call_of, answer_of}
use Rattle.layout.specs.View.{view}
use Rattle.layout.specs.WellFormed.{WellFormed}
use Rattle.call_steps.specs.Request.{Reply, count_of}
use Rattle.call_steps.specs.Request.{answer_of as reply_answer}
use Rattle.kernel_step.specs.Run.{step_run}
use Rattle.script_text.specs.Numeral.{line_of}
use Rattle.script_text.specs.Scan.{Means}
use Rattle.script_text.specs.Lines.{most_numbers}
use Rattle.script_text.specs.Pasted.{Put}
use Rattle.script_answers.specs.Room.{ANSWER}

-- what a line of these numbers comes to, where its call takes the free slots h: the rules' `line_rule` for any h
unfoldable pub line_with : Choice → State → List ℕ → Outcome
line_with h s l = elim (line_fits (op (nth l 0)) l) [
  | true ↦ rule s (call_of (op (nth l 0)) l) h
  | false ↦ record { answer = code Code.out_of_range; after = s }
]

-- the slices as they were
pub record Unchanged (b l w b' l' w' : List ℕ) : Type 0 where
  pub bytes : b' ≡ b
  pub links : l' ≡ l
  pub words : w' ≡ w

-- a reply of the code says the answer, its bytes at the buffer's front
pub record Said (a : Answer) : Type 0 where
  pub reply : Reply
  pub is : reply_answer reply a.bytes ≡ a
  pub count : count_of reply ≡ length a.bytes

-- b, l, w are the slices at entry, b', l', w' those at exit; the line has number `number`
pub record Played (ns : List ℕ) (number : ℕ) (b l w b' l' w' out : List ℕ) (at : ℕ) (out' : List ℕ) (r : ℕ) : Type 0 where
  -- the free slots that a done call took, where 01 leaves open which
  pub choice : Choice
  pub allowed : line_fits (op (nth ns 0)) ns ≡ true → Allowed (view b l w) (call_of (op (nth ns 0)) ns) choice
  -- the answer and the store are those of the rules
  pub answer : Answer
  pub rules : line_with choice (view b l w) ns ≡ record { answer = answer; after = view b' l' w' }
  pub said : Said answer
  -- and they are the exact run's, which says what is taken where 01 leaves it open
  pub exact : line_fits (op (nth ns 0)) ns ≡ true → step_run b l w (call_of (op (nth ns 0)) ns)
      ≡ record { answer = answer; bytes = b'; links = l'; words = w' }
  -- a bad line changes no cell
  pub bad : line_fits (op (nth ns 0)) ns ≡ false → Unchanged b l w b' l' w'
  -- "Every call keeps it" well formed
  pub formed : WellFormed b' l' w'
  -- the answer's line, from place `at` on
  pub wrote : Put ANSWER out at (line_of (number ∷ answer_of (op (nth ns 0)) answer)) out' r

-- the same of a line as it is written
pub record Plays (line : List ℕ) (number : ℕ) (b l w b' l' w' out : List ℕ) (at : ℕ) (out' : List ℕ) (r : ℕ) : Type 0 where
  pub numbers : List ℕ
  pub means : Means line numbers
  pub played : Played numbers number b l w b' l' w' out at out' r

-- ---- what the code asks

-- the working room that is lent for a call: the bytes that come with it, the answer buffer, the scratch. What is left in it is open
pub record Lent (ts bs ss : List ℕ) : Type 0 where
  pub text : length ts ≡ most_numbers
  pub buffer : length bs ≡ Limit.buffer
  pub scratch : length ss ≡ Limit.scratch

-- and for a line: its numbers
pub record Working (ns ts bs ss : List ℕ) : Type 0 where
  pub numbers : length ns ≡ most_numbers
  pub lent : Lent ts bs ss

-- a well-formed store, and room for an answer
pub record PlayAsks (b l w out : List ℕ) (at : ℕ) : Type 0 where
  pub formed : WellFormed b l w
  pub room : at + ANSWER ≤ length out

-- the first r of these numbers fit their call
pub record Fits (ns : List ℕ) (r : ℕ) : Type 0 where
  pub within : r ≤ length ns
  pub fits : line_fits (op (nth (take r ns) 0)) (take r ns) ≡ true

-- a line whose numbers do has them at the front of ns; a bad one has none
pub record FitsRead (line ns : List ℕ) (r : ℕ) : Type 0 where
  pub means : Means line (take r ns)
  pub fits : Fits ns r

pub record Misfits (line : List ℕ) : Type 0 where
  pub numbers : List ℕ
  pub means : Means line numbers
  pub bad : line_fits (op (nth numbers 0)) numbers ≡ false

abbrev pub Fitting : List ℕ → List ℕ → Option ℕ → Type 0
Fitting line ns (Some r) = FitsRead line ns r
Fitting line ns None = Misfits line
