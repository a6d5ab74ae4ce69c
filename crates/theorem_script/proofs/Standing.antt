-- Three slices follow the rules, and what they do is exact.
use Prim.Native.Nat.{ℕ}
use mathlib.Core.Path.{◌≡◌, refl, sym, ap, ◌∙◌, subst}
use mathlib.Core.List.{List, ◌∷◌}
use Rattle.rules.specs.Store.{State, fresh}
use Rattle.rules.specs.Rights.{op}
use Rattle.rules.specs.Call.{Answer, Outcome}
use Rattle.rules.specs.Demand.{Allowed}
use Rattle.rules.specs.Script.{nth, line_fits, call_of, answer_of}
use Rattle.rules.proofs.Tests.{by_bool}
use Rattle.call_steps.specs.Run.{Ran}
use Rattle.script_text.specs.Numeral.{line_of}
use Rattle.script_answers.specs.Ends.{totals_line}
use Rattle.script_play.specs.Plays.{line_with}
use Rattle.script_play.specs.Starts.{password_in}
use Rattle.script_play.proofs.Playing.{line-bad}
use Rattle.script_driver.specs.Machine.{Follows, Exact}
use Rattle.script_driver.specs.Stores.{Store, state_of, Played, stores}
use Rattle.theorem_script.specs.Rules.{rules_free}

-- ---- the slices follow them

abbrev pub Means : Store → State → Type 0
Means s t = t ≡ state_of s

pub stores-follow : Follows stores rules_free Means
stores-follow = record {
  begins = λ ns s fit b. (fresh (nth ns 0) (password_in ns), refl, sym b.means);
  plays = λ k s t ns out s' fit e p.
      let same : record { answer = p.answer; after = state_of s' } ≡ line_with p.choice t ns =
      sym (ap (λ (x : State). line_with p.choice x ns) e ∙ p.rules) in (
        state_of s',
        record {
          choice = p.choice;
          allowed = λ f. subst (λ (x : State). Allowed x (call_of (op (nth ns 0)) ns) p.choice) (sym e) (p.allowed f);
          comes = record {
            text = p.text ∙ ap (λ (x : Outcome). line_of (k ∷ answer_of (op (nth ns 0)) x.answer)) same;
            after = ap (λ (x : Outcome). x.after) same;
          };
        },
        refl,
      );
  totals = λ s t out e h. h ∙ ap totals_line (sym e);
}

-- ---- exact

store_same : {s t : Store} → s.bytes ≡ t.bytes → s.links ≡ t.links → s.words ≡ t.words → s ≡ t
store_same b l w = λ i. record { bytes = b i; links = l i; words = w i }

played-same : (k : ℕ) (s : Store) (ns out text : List ℕ) (s' t' : Store) → Played k s ns out s' → Played k s ns text t'
    → (out ≡ text) × (s' ≡ t')
played-same k s ns out text s' t' p q = by_bool (line_fits (op (nth ns 0)) ns)
    (λ e.
    let run = sym (p.exact e) ∙ q.exact e in (
      written (ap (λ (x : Ran). x.answer) run),
      store_same (ap (λ (x : Ran). x.bytes) run) (ap (λ (x : Ran). x.links) run) (ap (λ (x : Ran). x.words) run),
    ))
    (λ e.
    let u = p.bad e in
    let v = q.bad e in (
      written (ap (λ (x : Outcome). x.answer) (sym p.rules ∙ line-bad p.choice (state_of s) ns e)
          ∙ ap (λ (x : Outcome). x.answer) (sym (line-bad q.choice (state_of s) ns e) ∙ q.rules)),
      store_same (u.bytes ∙ sym v.bytes) (u.links ∙ sym v.links) (u.words ∙ sym v.words),
    ))
  where
    written : p.answer ≡ q.answer → out ≡ text
    written e = p.text ∙ ap (λ (a : Answer). line_of (k ∷ answer_of (op (nth ns 0)) a)) e ∙ sym q.text

pub stores-exact : Exact stores
stores-exact = record {
  begins = λ ns s t b c. store_same (b.bytes ∙ sym c.bytes) (b.links ∙ sym c.links) (b.words ∙ sym c.words);
  plays = played-same;
  totals = λ s out text e f. e ∙ sym f;
}
