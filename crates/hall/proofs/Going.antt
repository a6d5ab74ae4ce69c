-- What the driver's turns keep of where the program stands.
use Prim.Native.Nat.{ℕ, ◌+◌, ◌-◌, ◌*◌, ◌≤◌, ◌<◌}
use mathlib.Core.Path.{◌≡◌, sym, ap, ◌∙◌, subst}
use mathlib.Core.Bool.{false}
use mathlib.Core.List.{List, [], ◌++◌, append_assoc, append-nil}
use native.Mathlib.Omega.{arith}
use lib.ListN.{length, take, drop, length-drop, length-append, drop_of_length-le}
use lib.Seq.{length-take-le, take_all, take_at, drop-drop}
use Rattle.script_text.specs.Pasted.{pasted, Wrote}
use Rattle.std.specs.Prelude.{Option, Some, None}
use Rattle.script_play.specs.declared.workspace.Workspace.{Workspace}
use Rattle.script_play.specs.Workspace.{Works, StaysLent}
use Rattle.script_play.proofs.Lending.{works-on}
use Rattle.script_driver.specs.Turns.{At, Feeds}
use Rattle.script_driver.specs.Stores.{Store, stores}
use Rattle.script_driver.specs.Contract as Contract
use Rattle.script_driver.specs.Contract.{LAST, stage_of, held_in, Feeding, FeedAsks, FinishAsks}
use Rattle.script_driver.specs.declared.Run.{Run}
use Rattle.script_driver.specs.declared.Fed.{Fed}
use Rattle.script_driver.specs.Parts.{store_in, run_of, fed_of}
use Rattle.script_driver.proofs.Going.{feeds-within, feeds-some}
use Rattle.hall.specs.Runs.{BUFFER, TURNS, Placed, Roomy, Stands, FeedsAll, FedAll, Begins, pending, stage, line, Comes, none, turn, Passed, AllFed, FedIf, TurnedIf}

-- ---- where all that was pending is handed over

pub room-made : {out : List ℕ} {x : Run} (y : Run) → Placed out x → run_of y ≡ run_of x → y.at ≡ 0 → Roomy out x y
room-made {out} {x} y a e p = record {
  room = omega (arith, a.size, p);
  run = e;
  written = pending x out;
  kept = sym (ap (λ (k : ℕ). pending x out ++ take k out) p ∙ append-nil (pending x out));
}

-- ---- what was fed of a window, and what came of it

-- the bytes before place `from` were fed: with what comes of the others, that is what comes of the window
pub record Front (s₀ : Store) (held₀ out₀ : List ℕ) (x₀ : Run) (s : Store) (held window out : List ℕ) (x : Run) (from : ℕ) : Type 0 where
  pub said : List ℕ
  pub written : List ℕ
  pub comes : {text l' : List ℕ} {g' : At stores} → Comes (stage x s) (line x held) (drop from window) text g' l'
      → Comes (stage x₀ s₀) (line x₀ held₀) window (said ++ text) g' l'
  pub kept : pending x₀ out₀ ++ said ≡ written ++ pending x out

pub front-start : {s : Store} {held window out : List ℕ} {x : Run} → Front s held out x s held window out x 0
front-start {out = out} {x} = record { said = []; written = []; comes = λ d. d; kept = append-nil (pending x out) }

pub front-done : {s₀ s : Store} {held₀ out₀ held window out : List ℕ} {x₀ x : Run} {from : ℕ}
    → Front s₀ held₀ out₀ x₀ s held window out x from → length window ≤ from → Passed s₀ held₀ window out₀ x₀ s held out x
front-done {s₀} {s} {held₀} {out₀} {held} {window} {out} {x₀} {x} {from} f h = record {
  text = f.said;
  written = f.written;
  comes = subst (λ (t : List ℕ). Comes (stage x₀ s₀) (line x₀ held₀) window t (stage x s) (line x held)) (append-nil f.said)
      (f.comes (subst (λ (w : List ℕ). Comes (stage x s) (line x held) w [] (stage x s) (line x held)) (sym (drop_of_length-le window h)) none));
  kept = f.kept;
}

-- what is in the buffer after a text was put into it
pub wrote-pending : {out text out' : List ℕ} {at r : ℕ} → Wrote out at text out' r → at ≤ length out → take r out' ≡ take at out ++ text
unfolding pasted
wrote-pending {out} {text} {out'} {at} {r} w h =
    ap (λ (l : List ℕ). take r l) w.is
    ∙ take_at (take at out ++ text) (drop (at + length text) out) r
    (length-append (take at out) text ∙ ap (λ (n : ℕ). n + length text) (length-take-le at out h) ∙ sym w.end)

-- written, then pending; then more is written, and a text is put after it
parts_join : (p said w q v r t z : List ℕ) → p ++ said ≡ w ++ q → q ≡ v ++ r → z ≡ r ++ t → p ++ (said ++ t) ≡ (w ++ v) ++ z
parts_join p said w q v r t z a b e =
    sym (append_assoc p said t)
    ∙ ap (λ (l : List ℕ). l ++ t) a
    ∙ ap (λ (l : List ℕ). (w ++ l) ++ t) b
    ∙ ap (λ (l : List ℕ). l ++ t) (sym (append_assoc w v r))
    ∙ append_assoc (w ++ v) r t
    ∙ ap (λ (l : List ℕ). (w ++ v) ++ l) (sym e)

-- ---- the loop over what was read: the bytes before place `from` were fed

pub record Going (s₀ : Store) (held₀ out₀ : List ℕ) (w : Workspace) (held window out : List ℕ) (x₀ x : Run) (from : ℕ) : Type 0 where
  pub stands : Contract.Stands (store_in w) held (run_of x)
  pub working : Works w
  pub output : Placed out x
  pub number : x.number ≤ x₀.number + from
  pub within : from ≤ length window
  pub few : length window ≤ BUFFER
  pub counted : x₀.number + BUFFER ≤ LAST
  pub front : Front s₀ held₀ out₀ x₀ (store_in w) held window out x from

pub going_start : {w : Workspace} {held window out : List ℕ} {x : Run} → FeedsAll w held window out x
    → Going (store_in w) held out w held window out x x 0
going_start a = record {
  stands = a.stands.stands;
  working = a.stands.working;
  output = a.stands.output;
  number = omega arith;
  within = omega arith;
  few = a.few;
  counted = a.stands.counted;
  front = front-start;
}

-- what is left of the window
abbrev pub rest : List ℕ → ℕ → List ℕ
rest window from = take (length window - from) (drop from window)

pub rest-length : (window : List ℕ) (from : ℕ) → length (rest window from) ≡ length window - from
rest-length window from = length-take-le (length window - from) (drop from window) (omega (arith, length-drop from window))

pub rest_all : (window : List ℕ) (from : ℕ) → rest window from ≡ drop from window
rest_all window from = take_all (length window - from) (drop from window) (omega (arith, length-drop from window))

module _ {s₀ : Store} {held₀ out₀ : List ℕ} {w : Workspace} {held window out : List ℕ} {x₀ x y : Run} {from : ℕ}
    (g : Going s₀ held₀ out₀ w held window out x₀ x from) (r : Roomy out x y) where
  stood : Contract.Stands (store_in w) held (run_of y)
  stood = subst (Contract.Stands (store_in w) held) (sym r.run) g.stands

  numbered : y.number ≡ x.number
  numbered = ap (λ (q : Contract.Run). q.number) r.run

  pub feed-asked : FeedAsks (store_in w) held (run_of y) (rest window from) out y.at
  feed-asked = record {
    stands = stood;
    place = omega (arith, r.room);
    counted = omega (arith, numbered, g.number, g.within, g.few, g.counted, rest-length window from);
  }

  module _ (w' : Workspace) {held' out' : List ℕ} {q : Fed}
      (f : Feeding (store_in w) held (run_of y) (rest window from) out y.at (store_in w') held' out' (fed_of q)) (inside : from < length window) where
    pub taken-some : 1 ≤ q.taken
    taken-some = feeds-some f.feeds (omega (arith, rest-length window from)) (omega (arith, r.room))

    pub taken-within : from + q.taken ≤ length window
    taken-within = omega (arith, feeds-within f.feeds, rest-length window from)

    -- the same feed, from where the run stood before room was made, of what is left of the window
    fed : Feeds stores (length out - y.at) (stage x (store_in w)) (line x held) (drop from window) q.taken f.text
        (stage q.run (store_in w')) (line q.run held')
    fed = subst (λ (v : List ℕ). Feeds stores (length out - y.at) (stage x (store_in w)) (line x held) v q.taken f.text
        (stage q.run (store_in w')) (line q.run held')) (rest_all window from)
        (subst (λ (t : Contract.Run). Feeds stores (length out - y.at) (stage_of t (store_in w)) (held_in t held) (rest window from) q.taken f.text
        (stage q.run (store_in w')) (line q.run held')) r.run f.feeds)

    front-on : Front s₀ held₀ out₀ x₀ (store_in w') held' window out' q.run (from + q.taken)
    front-on = record {
      said = g.front.said ++ f.text;
      written = g.front.written ++ r.written;
      comes = λ {text} {l'} {g'} d.
          subst (λ (t : List ℕ). Comes (stage x₀ s₀) (line x₀ held₀) window t g' l') (sym (append_assoc g.front.said f.text text))
          (g.front.comes (turn fed
          (subst (λ (v : List ℕ). Comes (stage q.run (store_in w')) (line q.run held') v text g' l')
          (sym (drop-drop q.taken from window)) d)));
      kept = parts_join (pending x₀ out₀) g.front.said g.front.written (pending x out) r.written (pending y out) f.text (pending q.run out')
          g.front.kept r.kept (wrote-pending f.wrote (omega (arith, r.room)));
    }

    pub going_on : length out' ≡ length out → StaysLent w w' → Going s₀ held₀ out₀ w' held' window out' x₀ q.run (from + q.taken)
    going_on long lent = record {
      stands = f.stands;
      working = works-on lent g.working;
      output = record { size = long ∙ g.output.size; placed = omega (arith, f.place, long, g.output.size) };
      number = omega (arith, f.number, numbered, g.number);
      within = taken-within;
      few = g.few;
      counted = g.counted;
      front = front-on;
    }

pub going_done : {s₀ : Store} {held₀ out₀ : List ℕ} {w : Workspace} {held window out : List ℕ} {x₀ x : Run} {from : ℕ}
    → Going s₀ held₀ out₀ w held window out x₀ x from → length window ≤ from → AllFed s₀ held₀ out₀ w held window out x₀ x
going_done g all = record {
  fed = record { stands = g.stands; working = g.working; output = g.output; number = omega (arith, g.number, g.within) };
  passed = front-done g.front all;
}

-- what was read is a front of the input buffer
pub turned : (s₀ : Store) (held₀ out₀ : List ℕ) (w : Workspace) (held window input₀ input out : List ℕ) (x : Run) (y : Option Run) (got : ℕ)
    → FedIf s₀ held₀ out₀ w held window out x y → window ≡ take got input → length window ≤ length input₀
    → TurnedIf s₀ held₀ out₀ w held input₀ input out x y
turned s₀ held₀ out₀ w held window input₀ input out x (Some y) got f e h = record {
  fed = record { stands = f.fed.stands; working = f.fed.working; output = f.fed.output; number = omega (arith, f.fed.number) };
  got = got;
  passed = subst (λ (v : List ℕ). Passed s₀ held₀ v out₀ x (store_in w) held out y) e f.passed;
}
turned s₀ held₀ out₀ w held window input₀ input out x None got f e h = f

-- ---- the end of the input

pub finish-asked : {w : Workspace} {held out : List ℕ} {x y : Run} → Stands w held out x → Roomy out x y
    → FinishAsks (store_in w) held (run_of y) out y.at
finish-asked {w} {held} a r = record {
  stands = subst (Contract.Stands (store_in w) held) (sym r.run) a.stands;
  counted = omega (arith, ap (λ (t : Contract.Run). t.number) r.run, a.counted);
  room = r.room;
}

-- ---- the loop over the turns: so many were made

pub record Turning (w : Workspace) (held input out : List ℕ) (x : Run) (turns : ℕ) : Type 0 where
  pub stands : Contract.Stands (store_in w) held (run_of x)
  pub working : Works w
  pub output : Placed out x
  pub input-size : length input ≡ BUFFER
  pub counted : x.number ≤ BUFFER * turns

pub turning-start : {w : Workspace} {held input out : List ℕ} → Begins w held input out
    → Turning w held input out (record { number = 0; bad = false; count = 0; at = 0 }) 0
turning-start a = record {
  stands = record { formed = a.formed; size = a.size; few = omega arith };
  working = a.working;
  output = record { size = a.output-size; placed = omega arith };
  input-size = a.input-size;
  counted = omega arith;
}

pub turning-asks : {w : Workspace} {held input out : List ℕ} {x : Run} {turns : ℕ}
    → Turning w held input out x turns → turns < TURNS → FeedsAll w held input out x
turning-asks t more = record {
  stands = record { stands = t.stands; working = t.working; output = t.output; counted = omega (arith, t.counted) };
  few = omega (arith, t.input-size);
}

pub turning-on : {w w' : Workspace} {held input out held' input' out' : List ℕ} {x y : Run} {turns : ℕ}
    → Turning w held input out x turns → FedAll w' held' input out' x y
    → length input' ≡ length input → Turning w' held' input' out' y (turns + 1)
turning-on t f long = record {
  stands = f.stands;
  working = f.working;
  output = f.output;
  input-size = long ∙ t.input-size;
  counted = omega (arith, t.counted, f.number, t.input-size);
}
