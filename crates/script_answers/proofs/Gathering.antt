-- Numbers written one after another, and an answer's.
use Prim.Native.Nat.{ℕ, ◌+◌, ◌*◌, ◌≤◌, ◌<◌}
use mathlib.Core.Path.{◌≡◌, refl, sym, ap, ◌∙◌, subst}
use mathlib.Core.Logic.{◌≢◌}
use mathlib.Core.List.{List, [], ◌∷◌, ◌++◌, append-nil, append_assoc}
use native.Mathlib.Omega.{arith}
use lib.Dec.{eqb}
use lib.ListN.{length, get_or, take}
use borrow.Author.Tests.{eq-eqb, ne_eqb}
use Rattle.rules.specs.Rights.{Op, op}
use Rattle.rules.specs.Call.{Answer}
use Rattle.rules.specs.Script.{results, answer_of}
use Rattle.rules.proofs.Tests.{pick_yes, pick-not}
use Rattle.std.specs.Prelude.{Ok, Err}
use Rattle.values.specs.declared.refusal.Refusal.{Refusal}
use Rattle.values.specs.Refusals.{number_of}
use Rattle.values.proofs.Numbers.{number-some}
use Rattle.call_steps.specs.declared.request.Given.{Given}
use Rattle.call_steps.specs.Request.{Reply, count_of}
use Rattle.call_steps.specs.Request.{answer_of as reply_answer}
use Rattle.script_text.specs.Numeral.{numeral, after, spaced, line_of}
use Rattle.script_text.specs.Pasted.{Wrote, Put}
use Rattle.script_text.proofs.Numerals.{long-length}
use Rattle.script_text.proofs.Pasting.{wrote_none, wrote_then}
use Rattle.script_lines.proofs.Gathering.{next_of}
use Rattle.script_answers.specs.Pushed.{Pushed}

after_both : (s t : List ℕ) → after (s ++ t) ≡ after s ++ after t
unfolding after
after_both [] t = refl
after_both (n ∷ s) t =
    ap (λ (l : List ℕ). 32 ∷ numeral n ++ l) (after_both s t)
    ∙ ap (λ (l : List ℕ). 32 ∷ l) (sym (append_assoc (numeral n) (after s) (after t)))

-- a space and a number
pub pushed-one : (out mid out' : List ℕ) (at p r v : ℕ) → at + 11 ≤ length out → Wrote out at (32 ∷ []) mid p
    → Put 10 mid p (numeral v) out' r → Pushed 11 out at (v ∷ []) out' r
unfolding after
pushed-one out mid out' at p r v room space number = record {
  low = omega arith;
  wrote = subst (λ (t : List ℕ). Wrote out at (32 ∷ t) out' r) (sym (append-nil (numeral v)))
      (wrote_then space number.wrote (omega arith));
  room = omega (arith, space.end, number.room);
}

pub pushed_then : {a m b s t : List ℕ} {at p q j k : ℕ} → Pushed j a at s m p → Pushed k m p t b q → Pushed (j + k) a at (s ++ t) b q
pushed_then {a} {m} {b} {s} {t} {at} {p} {q} f g = record {
  low = f.low;
  wrote = subst (λ (l : List ℕ). Wrote a at l b q) (sym (after_both s t)) (wrote_then f.wrote g.wrote f.low);
  room = omega (arith, f.room, g.room);
}

-- within more places
pub pushed-in : {out out' ns : List ℕ} {at r j k : ℕ} → Pushed j out at ns out' r → j ≤ k → Pushed k out at ns out' r
pushed-in f h = record { low = f.low; wrote = f.wrote; room = omega (arith, f.room) }

-- nothing more
pub pushed_none : (most : ℕ) (out : List ℕ) (at : ℕ) → at ≤ length out → Pushed most out at [] out at
unfolding after
pushed_none most out at h = record { low = h; wrote = wrote_none out at; room = omega arith }

-- ---- bytes, one after another

pub record Pushing (out₀ : List ℕ) (at : ℕ) (bytes out : List ℕ) (p i : ℕ) : Type 0 where
  pub pushed : Pushed (11 * i) out₀ at (take i bytes) out p
  pub size : length out ≡ length out₀

pub pushing-none : (out : List ℕ) (at : ℕ) (bytes : List ℕ) → at ≤ length out → Pushing out at bytes out at 0
pushing-none out at bytes h = record { pushed = pushed_none 0 out at h; size = refl }

pub pushing-more : (out₀ : List ℕ) (at : ℕ) (bytes out out' : List ℕ) (p i q v : ℕ) → Pushing out₀ at bytes out p i
    → i < length bytes → v ≡ get_or bytes i 0 → Pushed 11 out p (v ∷ []) out' q → length out' ≡ length out
    → Pushing out₀ at bytes out' q (i + 1)
pushing-more out₀ at bytes out out' p i q v g h e one same = record {
  pushed = pushed-in
      (subst (λ (l : List ℕ). Pushed (11 * i + 11) out₀ at l out' q)
      (ap (λ (b : ℕ). take i bytes ++ (b ∷ [])) e ∙ next_of bytes i h)
      (pushed_then g.pushed one))
      (omega arith);
  size = same ∙ g.size;
}

pub pushing-all : (out₀ : List ℕ) (at : ℕ) (bytes out : List ℕ) (p i n : ℕ) → Pushing out₀ at bytes out p i → i ≡ n
    → Pushed (11 * n) out₀ at (take n bytes) out p
pushing-all out₀ at bytes out p i n g e =
    subst (λ (k : ℕ). Pushed (11 * k) out₀ at (take k bytes) out p) e g.pushed

-- ---- an answer

pub results-as : {out out' : List ℕ} {at r most : ℕ} (n k : ℕ) (a : Answer) → n ≡ k
    → Pushed most out at (results (op k) a) out' r → most ≤ 2827 → Pushed 2827 out at (results (op n) a) out' r
results-as {out} {out'} {at} {r} n k a e h few =
    subst (λ (m : ℕ). Pushed 2827 out at (results (op m) a) out' r) (sym e) (pushed-in h few)

answer-done : (o : Op) (a : Answer) → a.code ≡ 0 → a.code ∷ results o a ≡ answer_of o a
unfolding answer_of
answer-done o a e = ap (λ (n : ℕ). n ∷ results o a) e ∙ sym (pick_yes (eqb a.code 0) _ _ (eq-eqb a.code 0 e))

answer-refused : (o : Op) (a : Answer) → a.code ≢ 0 → a.code ∷ [] ≡ answer_of o a
unfolding answer_of
answer-refused o a e = sym (pick-not (eqb a.code 0) _ _ (ne_eqb a.code 0 e))

-- the reply's numbers were written
abbrev Answered : List ℕ → ℕ → Op → List ℕ → List ℕ → ℕ → Reply → Type 0
Answered out at o buffer out' q r = Pushed 2838 out at (answer_of o (reply_answer r (take (count_of r) buffer))) out' q

pub answered-done : {out mid out' : List ℕ} {at p q : ℕ} {r : Reply} {g : Given} (o : Op) (buffer : List ℕ) → r ≡ Ok g
    → Pushed 11 out at (0 ∷ []) mid p → Pushed 2827 mid p (results o (reply_answer (Ok g) (take g.count buffer))) out' q
    → Answered out at o buffer out' q r
unfolding reply_answer
answered-done {out} {out' = out'} {at = at} {q = q} {g = g} o buffer e first rest =
    subst (Answered out at o buffer out' q) (sym e)
    (subst (λ (l : List ℕ). Pushed 2838 out at l out' q) (answer-done o (reply_answer (Ok g) (take g.count buffer)) refl)
    (pushed_then first rest))

pub answered-refused : {out out' : List ℕ} {at q n : ℕ} {r : Reply} {f : Refusal} (o : Op) (buffer : List ℕ) → r ≡ Err f
    → n ≡ number_of f → Pushed 11 out at (n ∷ []) out' q → Answered out at o buffer out' q r
unfolding reply_answer
answered-refused {out} {out'} {at} {q} {f = f} o buffer e is first =
    subst (Answered out at o buffer out' q) (sym e)
    (subst (λ (l : List ℕ). Pushed 2838 out at l out' q) (answer-refused o (reply_answer (Err f) []) (number-some f))
    (pushed-in (subst (λ (k : ℕ). Pushed 11 out at (k ∷ []) out' q) is first) (omega arith)))

-- a line's own number, the others, and the line's end
pub line-pushed : (out one two out' ns : List ℕ) (line at p q r : ℕ) → line ≤ 18446744073709551615 → at ≤ length out
    → Wrote out at (numeral line) one p → Pushed 2838 one p ns two q → Wrote two q (10 ∷ []) out' r
    → Put 2870 out at (line_of (line ∷ ns)) out' r
unfolding spaced line_of
line-pushed out one two out' ns line at p q r fits h number others end = record {
  wrote = wrote_then (wrote_then number others.wrote h) end h;
  room = omega (arith, number.end, long-length line fits, others.room, end.end);
}
