-- What the driver's turns keep of where the program stands.
use Prim.Native.Nat.{ℕ, ◌+◌, ◌*◌, ◌≤◌}
use mathlib.Core.Path.{◌≡◌, ◌∙◌}
use mathlib.Core.List.{List, ◌++◌}
use native.Mathlib.Omega.{arith}
use lib.ListN.{length, take, length-append}
use lib.Seq.{length-take-le}
use Rattle.script_play.specs.declared.workspace.Workspace.{Workspace}
use Rattle.script_play.specs.Workspace.{Works}
use Rattle.script_driver.specs.Stores.{Store}
use Rattle.script_driver.specs.Contract.{LAST, Feeding}
use Rattle.script_driver.specs.declared.Run.{Run}
use Rattle.script_driver.specs.declared.Fed.{Fed}
use Rattle.script_driver.specs.Parts.{store_in, run_of, fed_of}
use Rattle.script_driver.proofs.Going.{feeds-within}
use Rattle.sheet.specs.Runs.{BUFFER, Stands, LineAsks, RunDone, Begins}

-- ---- a line

pub line-done : {s : Store} (w : Workspace) {held window out held' out' : List ℕ} {at : ℕ} {r : Run} {q : Fed}
    → Feeding s held (run_of r) window out at (store_in w) held' out' (fed_of q) → Works w
    → RunDone w held' window r q.run
line-done w f a = record {
  stands = record { stands = f.stands; working = a };
  number = omega (arith, f.number, feeds-within f.feeds);
}

-- ---- the lines of a window, of which some are left

pub record Going (w : Workspace) (held window : List ℕ) (r₀ r : Run) (left : List ℕ) : Type 0 where
  pub stands : Stands w held r
  pub number : r.number + length left ≤ r₀.number + length window
  pub counted : r₀.number + length window ≤ LAST

pub going_start : {w : Workspace} {held window : List ℕ} {r : Run} → LineAsks w held window r
    → Going w held window r r window
going_start a = record { stands = a.stands; number = omega arith; counted = a.counted }

-- a line and what is left after it
longer : (left line left' : List ℕ) → left ≡ line ++ left' → length left ≡ length line + length left'
longer left line left' e = rw e (length-append line left')

pub going-asks : {w : Workspace} {held window : List ℕ} {r₀ r : Run} {left line : List ℕ} (left' : List ℕ)
    → Going w held window r₀ r left → left ≡ line ++ left' → LineAsks w held line r
going-asks {left = left} {line = line} left' g e = record {
  stands = g.stands;
  counted = omega (arith, g.number, g.counted, longer left line left' e);
}

pub going_on : {w w' : Workspace} {held window held' : List ℕ} {r₀ r r' : Run} {left line left' : List ℕ}
    → Going w held window r₀ r left → left ≡ line ++ left' → RunDone w' held' line r r'
    → Going w' held' window r₀ r' left'
going_on {left = left} {line = line} {left' = left'} g e d = record {
  stands = d.stands;
  number = omega (arith, g.number, d.number, longer left line left' e);
  counted = g.counted;
}

pub going_done : {w : Workspace} {held window left : List ℕ} {r₀ r : Run} → Going w held window r₀ r left
    → RunDone w held window r₀ r
going_done g = record { stands = g.stands; number = omega (arith, g.number) }

-- ---- the turns: so many are left

pub record Turning (w : Workspace) (held input : List ℕ) (r : Run) (turns : ℕ) : Type 0 where
  pub stands : Stands w held r
  pub input-size : length input ≡ BUFFER
  pub counted : r.number + BUFFER * turns ≤ 9223372036854775808

pub turning-start : {w : Workspace} {held input : List ℕ} (r : Run) → Begins w held input → r.number ≡ 0
    → r.count ≡ 0 → Turning w held input r 140737488355328
turning-start r a n c = record {
  stands = record { stands = record { formed = a.formed; size = a.size; few = omega (arith, c) }; working = a.working };
  input-size = a.input-size;
  counted = omega (arith, n);
}

-- what is played of the input buffer is not more than it
pub part-few : (n : ℕ) (input : List ℕ) → n ≤ length input → length input ≡ BUFFER → length (take n input) ≤ BUFFER
part-few n input h e = omega (arith, length-take-le n input h, h, e)

pub turning-asks : {w : Workspace} {held input : List ℕ} {r : Run} {turns : ℕ} (window : List ℕ)
    → Turning w held input r turns → 1 ≤ turns → length window ≤ BUFFER → LineAsks w held window r
turning-asks window t some few = record { stands = t.stands; counted = omega (arith, t.counted) }

pub turning-on : {w w' : Workspace} {held input held' input' window : List ℕ} {r r' : Run} {turns turns' : ℕ}
    → Turning w held input r turns → turns' + 1 ≤ turns → RunDone w' held' window r r' → length window ≤ BUFFER
    → length input' ≡ length input → Turning w' held' input' r' turns'
turning-on t fewer d few long = record {
  stands = d.stands;
  input-size = long ∙ t.input-size;
  counted = omega (arith, t.counted, d.number, fewer);
}
