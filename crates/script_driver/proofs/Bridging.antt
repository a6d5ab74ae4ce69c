-- From the contracts of `start` and `play_line` to lines of the model.
use Prim.Native.Nat.{ℕ, suc, ◌≤◌}
use mathlib.Core.Path.{refl, sym}
use mathlib.Core.Bool.{Bool, true, false, not}
use mathlib.Core.List.{List, [], ◌∷◌}
use native.Mathlib.Omega.{arith}
use lib.ListN.{length}
use borrow.Author.Tests.{eqb-true, eqb-false}
use Rattle.rules.specs.Rights.{op}
use Rattle.rules.specs.Script.{nth, answer_of}
use Rattle.script_text.specs.Numeral.{line_of}
use Rattle.script_text.specs.Pasted.{Wrote}
use Rattle.script_play.specs.Plays.{Plays}
use Rattle.script_play.specs.Starts.{Made, Starts}
use Rattle.script_driver.specs.Turns.{opening, closed, playing, Goes, good, bad, unplayed, later, Line, ANSWER}
use Rattle.script_driver.specs.Stores.{Store, stores}
use Rattle.script_driver.specs.Contract.{stage_by}
use Rattle.script_driver.specs.Parts.{store}
use Rattle.script_driver.proofs.Having.{line-has}

-- ---- line one

first_goes : {ns b l w b' l' w' : List ℕ} {r : Bool} → Made ns b l w b' l' w' r
    → Goes stores opening ns [] (stage_by 1 (not r) (store b' l' w'))
unfolding stage_by
first_goes {ns} {r = true} m = good (eqb-true (length ns) 3 (sym m.is)) (m.good refl)
first_goes {ns} {r = false} m = bad (eqb-false (length ns) 3 (sym m.is))

pub first-line : {line b l w b' l' w' : List ℕ} {r : Bool} → Starts line b l w b' l' w' r
    → Line stores opening line [] (stage_by 1 (not r) (store b' l' w'))
first-line h = record { numbers = h.numbers; means = h.line-means; goes = first_goes h.made }

-- after a bad one no line need be read
pub closed-line : (line : List ℕ) → Line stores closed line [] closed
closed-line line = let r = line-has line in record { numbers = r.0; means = r.1; goes = unplayed }

-- ---- a later line

pub record Later (line : List ℕ) (number : ℕ) (s s' : Store) (out : List ℕ) (at : ℕ) (out' : List ℕ) (r : ℕ) : Type 0 where
  pub text : List ℕ
  pub is : Line stores (playing number s) line text (playing (suc number) s')
  pub wrote : Wrote out at text out' r
  pub few : length text ≤ ANSWER

pub later-line : {line b l w b' l' w' out out' : List ℕ} {number at r : ℕ} → Plays line number b l w b' l' w' out at out' r
    → Later line number (store b l w) (store b' l' w') out at out' r
later-line {number = number} h =
    let p = h.played in record {
      text = line_of (number ∷ answer_of (op (nth h.numbers 0)) p.answer);
      is = record {
        numbers = h.numbers;
        means = h.means;
        goes = later (record {
          choice = p.choice;
          allowed = p.allowed;
          answer = p.answer;
          rules = p.rules;
          exact = p.exact;
          bad = p.bad;
          formed = p.formed;
          text = refl;
        });
      };
      wrote = p.wrote.wrote;
      few = omega (arith, p.wrote.room, p.wrote.wrote.end);
    }
