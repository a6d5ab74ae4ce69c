-- The calls that a script's lines make, as a run of `call` on the three slices: what demand 3 speaks of.
use Rattle.std.specs.Prelude.{ℕ, suc, ◌≡◌, true, false, List, [], ◌∷◌, ◌++◌, take}
use Rattle.rules.specs.Code as Code
use Rattle.rules.specs.Rights.{op}
use Rattle.rules.specs.Call.{Answer}
use Rattle.rules.specs.Script.{nth, line_fits, call_of, answer_of}
use Rattle.layout.specs.View.{view}
use Rattle.layout.specs.WellFormed.{Sized}
use Rattle.call_steps.specs.Request.{count_of}
use Rattle.call_steps.specs.Request.{answer_of as reply_answer}
use Rattle.kernel_fresh.specs.Fresh.{Fresh}
use Rattle.script_text.specs.Numeral.{line_of}
use Rattle.script_answers.specs.Ends.{totals_line}
use Rattle.script_play.specs.Starts.{password_in}
use Rattle.theorem_history.specs.History.{Store, plain, Event, call_at, Runs, Holds}

-- a call's reply, with the bytes at the buffer's front, as the rules' answer
abbrev pub answer_in : Event → Answer
answer_in e = reply_answer e.reply (take (count_of e.reply) e.buffer-after)

-- lines of these numbers, the first of them line k, on the store s: the calls that they make, one after another, and what is
-- written, the totals last. A bad line makes no call; no line makes one by hook.
pub data MakesCalls : ℕ → Store → List (List ℕ) → List Event → List ℕ → Type 0 where
  over : {k : ℕ} {s : Store} → MakesCalls k s [] [] (totals_line (view s.bytes s.links s.words))
  bad : {k : ℕ} {s : Store} {ns text : List ℕ} {nss : List (List ℕ)} {es : List Event}
      → line_fits (op (nth ns 0)) ns ≡ false
      → MakesCalls (suc k) s nss es text
      → MakesCalls k s (ns ∷ nss) es (line_of (k ∷ Code.out_of_range ∷ []) ++ text)
  call : {k : ℕ} {s : Store} {ns text : List ℕ} {nss : List (List ℕ)} {e : Event} {es : List Event}
      → line_fits (op (nth ns 0)) ns ≡ true
      → e.way ≡ plain
      → call_at e ≡ call_of (op (nth ns 0)) ns
      → MakesCalls (suc k) e.store nss es text
      → MakesCalls k s (ns ∷ nss) (e ∷ es) (line_of (k ∷ answer_of (op (nth ns 0)) (answer_in e)) ++ text)

-- a good line one, then lines of these numbers: a run of `call` from what `fresh` gives, whatever stood in the slices before, and
-- demand 3 of it
pub record RanCalls (first : List ℕ) (numbers : List (List ℕ)) (text : List ℕ) : Type 0 where
  pub store : Store
  pub fresh : (old : Store) → Sized old.bytes old.links old.words
      → Fresh (nth first 0) (password_in first) old.bytes old.links old.words store.bytes store.links store.words 0
  pub events : List Event
  pub runs : Runs store events
  pub makes : MakesCalls 1 store numbers events text
  pub holds : Holds (password_in first) store events
