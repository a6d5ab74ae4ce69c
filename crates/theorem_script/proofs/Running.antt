-- Turns, one after another: the bytes taken make one run, whatever the windows and the room; and a run to the end writes what the
-- script's lines write.
use Prim.Native.Nat.{ℕ}
use mathlib.Core.Path.{◌≡◌, refl, sym, ap, ◌∙◌, subst}
use mathlib.Core.Logic.{◌≢◌}
use mathlib.Core.List.{List, [], ◌∷◌, ◌++◌, append_assoc, append-nil}
use native.Mathlib.Omega.{arith}
use lib.ListN.{length, take, drop, take-append-drop}
use Rattle.script_text.specs.Lines.{lines_of}
use Rattle.script_driver.specs.Machine.{Machine}
use Rattle.script_driver.specs.Turns.{opening, At, Line, Lines, over, line, WritesOn, cut}
use Rattle.script_driver.specs.Turns.{Feeds, all, full, held, ended, Ends, none, last, Turns, end, turn, Script}
use Rattle.script_driver.proofs.Cutting.{Plain, empty, plain_more, lines-ended, lines_none, lines-last, cut-more, cut-none, cut-means}

-- ---- bytes taken

pub data Runs (M : Machine) : At M → List ℕ → List ℕ → List ℕ → At M → List ℕ → Type 0 where
  stays : {g : At M} {l : List ℕ} → Runs M g l [] [] g l
  holds : {b : ℕ} {g g' : At M} {l l' input out : List ℕ} → b ≢ 10 → Runs M g (cut (l ++ b ∷ [])) input out g' l'
      → Runs M g l (b ∷ input) out g' l'
  ends : {g m g' : At M} {l l' input out text : List ℕ} → Line M g l out m → Runs M m [] input text g' l'
      → Runs M g l (10 ∷ input) (out ++ text) g' l'

pub feeds-runs : {M : Machine} {room n : ℕ} {g g' : At M} {l l' window out : List ℕ} → Feeds M room g l window n out g' l'
    → Runs M g l (take n window) out g' l'
feeds-runs all = stays
feeds-runs (full h) = stays
feeds-runs (held h ne f) = holds ne (feeds-runs f)
feeds-runs (ended h d f) = ends d (feeds-runs f)

pub runs_then : {M : Machine} {g m g' : At M} {l h l' i j out text : List ℕ} → Runs M g l i out m h → Runs M m h j text g' l'
    → Runs M g l (i ++ j) (out ++ text) g' l'
runs_then stays r = r
runs_then (holds ne q) r = holds ne (runs_then q r)
runs_then {M} {g} {g' = g'} {l = l} {l' = l'} {j = j} {text = text} (ends {input = input} {out = o} {text = t} d q) r =
    subst (λ (x : List ℕ). Runs M g l (10 ∷ (input ++ j)) x g' l') (sym (append_assoc o t text)) (ends d (runs_then q r))

-- ---- to the end of the input

pub record Whole (M : Machine) (g : At M) (l input text : List ℕ) : Type 0 where
  pub out : List ℕ
  pub stage : At M
  pub left : List ℕ
  pub rest : List ℕ
  pub runs : Runs M g l input out stage left
  pub ends : Ends M stage left rest
  pub is : text ≡ out ++ rest

whole-as : {M : Machine} {g : At M} {l i j text : List ℕ} → i ≡ j → Whole M g l i text → Whole M g l j text
whole-as {M} {g} {l} {text = text} e w = subst (λ (x : List ℕ). Whole M g l x text) e w

after_turn : {M : Machine} {g g' : At M} {l l' i j out text : List ℕ} → Runs M g l i out g' l' → Whole M g' l' j text
    → Whole M g l (i ++ j) (out ++ text)
after_turn {out = o} r w = record {
  out = o ++ w.out;
  stage = w.stage;
  left = w.left;
  rest = w.rest;
  runs = runs_then r w.runs;
  ends = w.ends;
  is = ap (λ (x : List ℕ). o ++ x) w.is ∙ sym (append_assoc o w.out w.rest);
}

came-in : (n : ℕ) (window behind rest more input : List ℕ) → rest ++ more ≡ window ++ behind
    → take n window ++ ((drop n window ++ behind) ++ input) ≡ rest ++ (more ++ input)
came-in n window behind rest more input e =
    sym (append_assoc (take n window) (drop n window ++ behind) input)
    ∙ ap (λ (x : List ℕ). x ++ input) (sym (append_assoc (take n window) (drop n window) behind)
    ∙ ap (λ (x : List ℕ). x ++ behind) (take-append-drop n window) ∙ sym e)
    ∙ append_assoc rest more input

pub turns-whole : {M : Machine} {g : At M} {l rest input text : List ℕ} → Turns M g l rest input text
    → Whole M g l (rest ++ input) text
turns-whole {g = g} {l = l} {text = text} (end e) =
    record { out = []; stage = g; left = l; rest = text; runs = stays; ends = e; is = refl }
turns-whole {rest = rest} (turn more behind {window = window} {input = input} {n = n} e f t) =
    whole-as (came-in n window behind rest more input e) (after_turn (feeds-runs f) (turns-whole t))

-- ---- the lines that it played

-- what is held of a line stands for the line
line-cut : {M : Machine} {g m : At M} {p out : List ℕ} → Line M g (cut p) out m → Line M g p out m
line-cut {p = p} d = record { numbers = d.numbers; means = cut-means p d.numbers d.means; goes = d.goes }

cut-empty : (p : List ℕ) → [] ≡ cut p → p ≡ []
unfolding cut
cut-empty [] e = refl
cut-empty (b ∷ p) e = absurd (omega (arith, ap length e))

ends-lines : {M : Machine} {g : At M} {l out : List ℕ} (p : List ℕ) → Plain p → l ≡ cut p → Ends M g l out
    → Lines M g (lines_of p) out
ends-lines {M} {g} {out = out} p plain e (none c) =
    subst (λ (x : List (List ℕ)). Lines M g x out) (sym (ap lines_of (cut-empty p e) ∙ lines_none)) (over c)
ends-lines {M} {g} [] plain e (last {b = b} {l = l} d c) = absurd (omega (arith, ap length (e ∙ cut-none)))
ends-lines {M} {g} (x ∷ p) plain e (last {m = m} {out = o} {text = t} d c) =
    subst (λ (y : List (List ℕ)). Lines M g y (o ++ t)) (sym (lines-last plain))
    (line (line-cut (subst (λ (y : List ℕ). Line M g y o m) e d)) (over c))

pub runs-lines : {M : Machine} {g g' : At M} {l l' input out text : List ℕ} (p : List ℕ) → Plain p → l ≡ cut p
    → Runs M g l input out g' l' → Ends M g' l' text → Lines M g (lines_of (p ++ input)) (out ++ text)
runs-lines {M} {g} {text = text} p plain e stays f =
    subst (λ (x : List ℕ). Lines M g (lines_of x) text) (sym (append-nil p)) (ends-lines p plain e f)
runs-lines {M} {g} {out = out} {text = text} p plain e (holds {b = b} {input = input} ne r) f =
    subst (λ (x : List ℕ). Lines M g (lines_of x) (out ++ text)) (append_assoc p (b ∷ []) input)
    (runs-lines (p ++ b ∷ []) (plain_more plain ne) (ap (λ (x : List ℕ). cut (x ++ b ∷ [])) e ∙ cut-more p (b ∷ [])) r f)
runs-lines {M} {g} {text = text} p plain e (ends {m = m} {input = input} {out = o} {text = t} d r) f =
    subst (λ (x : List ℕ). Lines M g (lines_of (p ++ 10 ∷ input)) x) (sym (append_assoc o t text))
    (subst (λ (x : List (List ℕ)). Lines M g x (o ++ (t ++ text))) (sym (lines-ended input plain))
    (line (line-cut (subst (λ (y : List ℕ). Line M g y o m) e d)) (runs-lines [] empty (sym cut-none) r f)))

pub whole-writes : {M : Machine} {input text : List ℕ} → Whole M opening [] input text → WritesOn M input text
whole-writes {M} {input} w =
    subst (λ (x : List ℕ). Lines M opening (lines_of input) x) (sym w.is)
    (runs-lines [] empty (sym cut-none) w.runs w.ends)

-- every list of turns
pub script-writes : {M : Machine} {input text : List ℕ} → Script M input text → WritesOn M input text
script-writes t = whole-writes (turns-whole t)
