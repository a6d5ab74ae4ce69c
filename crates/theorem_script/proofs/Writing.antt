-- What a script writes by the rules is its output.
use Prim.Native.Nat.{ℕ, suc}
use mathlib.Core.Path.{◌≡◌, refl, sym, ap, ◌∙◌}
use mathlib.Core.Logic.{◌≢◌}
use mathlib.Core.List.{List, [], ◌∷◌, ◌++◌}
use lib.Dec.{eqb}
use lib.ListN.{length}
use borrow.Author.Tests.{eq-eqb, ne_eqb}
use Rattle.rules.specs.Store.{State, fresh}
use Rattle.rules.specs.Rights.{op}
use Rattle.rules.specs.Script.{nth, line_rule, answer_of}
use Rattle.rules.proofs.Tests.{pick_yes, pick-not}
use Rattle.script_text.specs.Numeral.{line_of}
use Rattle.script_text.specs.Scan.{Means}
use Rattle.script_answers.specs.Ends.{totals_line}
use Rattle.script_answers.specs.Output.{transcript, output, MeanAll, none, more, Writes}
use Rattle.script_play.specs.Starts.{password_in}
use Rattle.script_driver.specs.Turns.{opening, closed, playing, At, Goes, good, bad, unplayed, later}
use Rattle.script_driver.specs.Turns.{Closes, absent, refused, totals, Lines, over, line, WritesOn}
use Rattle.theorem_script.specs.Rules.{ComesTo, rules}

-- the numbers of the lines, and a text
record Read (ls : List (List ℕ)) (text : List ℕ) (f : List (List ℕ) → List ℕ) : Type 0 where
  numbers : List (List ℕ)
  means : MeanAll ls numbers
  is : text ≡ f numbers

-- ---- after a good line one

transcript-more : (k : ℕ) (s : State) (ns : List ℕ) (nss : List (List ℕ)) → transcript k s (ns ∷ nss)
    ≡ line_of (k ∷ answer_of (op (nth ns 0)) (line_rule s ns).answer) ++ transcript (suc k) (line_rule s ns).after nss
unfolding transcript
transcript-more k s ns nss = refl

transcript-none : (k : ℕ) (s : State) → transcript k s [] ≡ totals_line s
unfolding transcript
transcript-none k s = refl

later-read : (k : ℕ) (s s' : State) {l ns out text : List ℕ} {ls : List (List ℕ)} → Means l ns
    → ComesTo k ns (line_rule s ns) out s'
    → Read ls text (transcript (suc k) s') → Read (l ∷ ls) (out ++ text) (transcript k s)
later-read k s s' {l} {ns} {out} {text} {ls} m a r =
    let x = a.text in
    let y = a.after in
    let z = r.is in record {
      numbers = ns ∷ r.numbers;
      means = more m r.means;
      is = (λ i. x i ++ z i)
          ∙ ap (λ (t : State). line_of (k ∷ answer_of (op (nth ns 0)) (line_rule s ns).answer) ++ transcript (suc k) t r.numbers) y
          ∙ sym (transcript-more k s ns r.numbers);
    }

-- ---- from any stage

abbrev text_from : At rules → List (List ℕ) → List ℕ
text_from opening nss = output nss
text_from closed nss = line_of (0 ∷ 2 ∷ [])
text_from (playing k s) nss = transcript k s nss

output-none : output [] ≡ line_of (0 ∷ 2 ∷ [])
unfolding output
output-none = refl

output-good : (ns : List ℕ) (nss : List (List ℕ)) → length ns ≡ 3
    → output (ns ∷ nss) ≡ transcript 1 (fresh (nth ns 0) (password_in ns)) nss
unfolding output
output-good ns nss e = pick_yes (eqb (length ns) 3) _ _ (eq-eqb (length ns) 3 e)

output-bad : (ns : List ℕ) (nss : List (List ℕ)) → length ns ≢ 3 → output (ns ∷ nss) ≡ line_of (0 ∷ 2 ∷ [])
unfolding output
output-bad ns nss e = pick-not (eqb (length ns) 3) _ _ (ne_eqb (length ns) 3 e)

over-read : {g : At rules} {text : List ℕ} → Closes rules g text → text ≡ text_from g []
over-read (absent e) = e ∙ sym output-none
over-read (refused e) = e
over-read (totals {k = k} {s = s} e) = e ∙ sym (transcript-none k s)

goes-read : {g m : At rules} {l ns out text : List ℕ} {ls : List (List ℕ)} → Means l ns → Goes rules g ns out m
    → Read ls text (text_from m) → Read (l ∷ ls) (out ++ text) (text_from g)
goes-read {ns = ns} m (good {s = s} three begins) r = record {
  numbers = ns ∷ r.numbers;
  means = more m r.means;
  is = r.is ∙ ap (λ (x : State). transcript 1 x r.numbers) begins ∙ sym (output-good ns r.numbers three);
}
goes-read {ns = ns} m (bad other) r = record {
  numbers = ns ∷ r.numbers;
  means = more m r.means;
  is = r.is ∙ sym (output-bad ns r.numbers other);
}
goes-read {ns = ns} m unplayed r = record { numbers = ns ∷ r.numbers; means = more m r.means; is = r.is }
goes-read m (later {k = k} {s = s} {s' = s'} a) r = later-read k s s' m a r

lines-read : {g : At rules} {ls : List (List ℕ)} {text : List ℕ} → Lines rules g ls text → Read ls text (text_from g)
lines-read (over c) = record { numbers = []; means = none; is = over-read c }
lines-read (line d rest) = goes-read d.means d.goes (lines-read rest)

pub rules-write : (script : List ℕ) {text : List ℕ} → WritesOn rules script text → Writes script text
rules-write script w = let r = lines-read w in record { numbers = r.numbers; means = r.means; is = r.is }
