-- Which free slots are taken makes no difference to what a script writes: the rules with any follow those of `output`, which
-- take the last free ones.
use Prim.Native.Nat.{ℕ}
use mathlib.Core.Path.{◌≡◌, refl, sym, ap, ◌∙◌, subst}
use mathlib.Core.Bool.{true}
use mathlib.Core.List.{List, [], ◌∷◌, ◌++◌}
use Rattle.rules.specs.Store.{State, fresh}
use Rattle.rules.specs.Valid.{Valid}
use Rattle.rules.specs.Rights.{op}
use Rattle.rules.specs.Call.{Call, Answer, Outcome, Choice}
use Rattle.rules.specs.Demand.{FreshWords, Allowed}
use Rattle.rules.specs.Theorems.{ValidKept, LastFree}
use Rattle.rules.specs.Meaning.{SameMeaning}
use Rattle.rules.specs.Blind.{MeaningBlind, MoneyBlind}
use Rattle.rules.specs.Script.{nth, line_fits, call_of, answer_of, last_free, line_rule, totals}
use Rattle.rules.proofs.Tests.{by_bool}
use Rattle.rules.proofs.Fresh.{valid-fresh}
use Rattle.rules.proofs.Theorems.{valid-kept, last-free}
use Rattle.rules.proofs.Meant.{same_self}
use Rattle.rules.proofs.Blind.{meaning-blind, money-blind}
use Rattle.script_text.specs.Numeral.{line_of, after}
use Rattle.script_answers.specs.Ends.{totals_line}
use Rattle.script_play.specs.Plays.{line_with}
use Rattle.script_play.specs.Starts.{password_in}
use Rattle.script_play.proofs.Playing.{line-good, line-bad}
use Rattle.script_driver.specs.Machine.{Fit, Follows}
use Rattle.theorem_script.specs.Rules.{rules, rules_free}

-- two stores of one meaning
pub record Twins (s t : State) : Type 0 where
  pub left : Valid s
  pub right : Valid t
  pub same : SameMeaning s t

twins-as : {a b s t : State} → a ≡ s → b ≡ t → Twins s t → Twins a b
twins-as {b = b} {s = s} e f w = subst (λ (z : State). Twins z b) (sym e) (subst (λ (z : State). Twins s z) (sym f) w)

-- ---- a line on both

record Alike (r q : Outcome) : Type 0 where
  answer : q.answer ≡ r.answer
  twins : Twins r.after q.after

alike_as : {a b x y : Outcome} → a ≡ x → b ≡ y → Alike x y → Alike a b
alike_as {b = b} {x = x} e f p = subst (λ (z : Outcome). Alike z b) (sym e) (subst (λ (z : Outcome). Alike x z) (sym f) p)

abbrev Free : State → List ℕ → Choice → Type 0
Free s ns h = line_fits (op (nth ns 0)) ns ≡ true → Allowed s (call_of (op (nth ns 0)) ns) h

line-alike : (s t : State) (ns : List ℕ) (h g : Choice) → Twins s t → Free s ns h → Free t ns g
    → Alike (line_with h s ns) (line_with g t ns)
unfolding MeaningBlind ValidKept
line-alike s t ns h g W P Q = by_bool (line_fits (op (nth ns 0)) ns)
    (λ e.
    let c : Call = call_of (op (nth ns 0)) ns in
    let a = meaning-blind s t c h g W.left W.right W.same (P e) (Q e) in
    alike_as (line-good h s ns e) (line-good g t ns e) (record {
      answer = a.0;
      twins = record { left = valid-kept s c h W.left (P e); right = valid-kept t c g W.right (Q e); same = a.1 };
    }))
    (λ e. alike_as (line-bad h s ns e) (line-bad g t ns e) (record { answer = refl; twins = W }))

-- ---- the slots that `output` takes

abbrev last_of : State → List ℕ → Choice
last_of s ns = last_free s (call_of (op (nth ns 0)) ns)

last-rule : (s : State) (ns : List ℕ) → line_with (last_of s ns) s ns ≡ line_rule s ns
unfolding line_with line_rule
last-rule s ns = refl

-- ---- at both ends

fresh-words : (ns : List ℕ) → Fit ns → FreshWords (nth ns 0) (password_in ns)
fresh-words ns f = record { amount = f.fits 0; p1 = f.fits 1; p2 = f.fits 2 }

fresh-twins : (ns : List ℕ) → Fit ns → Twins (fresh (nth ns 0) (password_in ns)) (fresh (nth ns 0) (password_in ns))
fresh-twins ns f =
    let v = valid-fresh (nth ns 0) (password_in ns) (fresh-words ns f) in
    record { left = v; right = v; same = same_self (fresh (nth ns 0) (password_in ns)) }

totals-same : (s t : State) → Twins s t → totals_line t ≡ totals_line s
unfolding totals_line totals MoneyBlind
totals-same s t w =
    let m = money-blind s t w.left w.right w.same in
    let a = m.0 in
    let b = m.1 in
    let x = m.2 in
    let h = w.same.house in
    λ d. (84 ∷ []) ++ after (a d ∷ b d ∷ x d ∷ h d ∷ []) ++ (10 ∷ [])

pub free-follow : Follows rules_free rules Twins
unfolding LastFree
free-follow = record {
  begins = λ ns s f e. (fresh (nth ns 0) (password_in ns), refl, twins-as e refl (fresh-twins ns f));
  plays = λ k s t ns out s' f w a.
      let c : Call = call_of (op (nth ns 0)) ns in
      let Q : Free t ns (last_of t ns) = λ e. record {
        words = (a.allowed e).words;
        choice = λ d. last-free t c w.right d;
      } in
      let p = alike_as refl (sym (last-rule t ns)) (line-alike s t ns a.choice (last_of t ns) w a.allowed Q) in (
        (line_rule t ns).after,
        record {
          text = a.comes.text ∙ ap (λ (x : Answer). line_of (k ∷ answer_of (op (nth ns 0)) x)) (sym p.answer);
          after = refl;
        },
        twins-as a.comes.after refl p.twins,
      );
  totals = λ s t out w e. e ∙ sym (totals-same s t w);
}
