-- A line's call is what the rules' call of its numbers is, and its answer's line is theirs.
use Prim.Native.Nat.{ℕ}
use mathlib.Core.Path.{◌≡◌, refl, sym, ap, subst, ◌∙◌}
use mathlib.Core.Bool.{true, false, true≢false}
use mathlib.Core.List.{List, [], ◌∷◌}
use native.Mathlib.Omega.{arith}
use Rattle.std.specs.Prelude.{Err}
use lib.ListN.{length, take, length-take}
use Rattle.rules.specs.Code as Code
use Rattle.rules.specs.Limit as Limit
use Rattle.rules.specs.Store.{State}
use Rattle.rules.specs.Rights.{Op, op}
use Rattle.rules.specs.Call.{Call, Choice, code}
use Rattle.rules.specs.Rule.{rule}
use Rattle.rules.specs.Demand.{Allowed}
use Rattle.rules.specs.Script.{nth, line_fits, answer_of}
use Rattle.rules.specs.Script.{call_of as line_call}
use Rattle.rules.proofs.Tests.{pick_yes, pick-not}
use Rattle.layout.specs.View.{view}
use Rattle.layout.specs.WellFormed.{WellFormed}
use Rattle.call_steps.specs.declared.request.Request.{Request}
use Rattle.call_steps.specs.Request.{Reply, call_of, count_of}
use Rattle.call_steps.specs.Request.{answer_of as reply_answer}
use Rattle.values.specs.declared.refusal.Refusal.TheVariants.{OutOfRange}
use Rattle.call_steps.proofs.Replying.{answer-bytes}
use Rattle.kernel_step.specs.Slices.{Slices, slices}
use Rattle.kernel_step.specs.Run.{step_run}
use Rattle.kernel_step.specs.Steps.{Stepped}
use Rattle.script_text.specs.Numeral.{line_of}
use Rattle.script_text.specs.Pasted.{Put}
use Rattle.script_answers.specs.Room.{ANSWER, REFUSAL}
use Rattle.script_answers.specs.Pushed.{BytesCounted}
use Rattle.script_play.specs.Plays.{line_with, Said, Played, Plays, Misfits}

-- ---- the rules of a line

pub line-good : (h : Choice) (s : State) (ns : List ℕ) → line_fits (op (nth ns 0)) ns ≡ true
    → line_with h s ns ≡ rule s (line_call (op (nth ns 0)) ns) h
unfolding line_with
line-good h s ns e = pick_yes (line_fits (op (nth ns 0)) ns) _ _ e

pub line-bad : (h : Choice) (s : State) (ns : List ℕ) → line_fits (op (nth ns 0)) ns ≡ false
    → line_with h s ns ≡ record { answer = code Code.out_of_range; after = s }
unfolding line_with
line-bad h s ns e = pick-not (line_fits (op (nth ns 0)) ns) _ _ e

-- a line's call has the line's first number
line-number : (o : Op) (l : List ℕ) → (line_call o l).number ≡ nth l 0
unfolding line_call
line-number o l = refl

-- ---- a line that fits its call

-- q is the request that it says
abbrev Says : Request → List ℕ → Type 0
Says q ns = call_of q (line_call (op (nth ns 0)) ns).text Limit.buffer Limit.scratch ≡ line_call (op (nth ns 0)) ns

-- its request is its call
same-call : (q : Request) (ns text buffer scratch : List ℕ) → Says q ns
    → text ≡ (line_call (op (nth ns 0)) ns).text → length buffer ≡ Limit.buffer → length scratch ≡ Limit.scratch
    → call_of q text (length buffer) (length scratch) ≡ line_call (op (nth ns 0)) ns
same-call q ns text buffer scratch asked t b s = rw (t, b, s) asked

same_number : (q : Request) (ns : List ℕ) → Says q ns → q.number ≡ nth ns 0
unfolding call_of
same_number q ns asked = ap (λ (c : Call). c.number) asked ∙ line-number (op (nth ns 0)) ns

-- the bytes that a reply counts are within the buffer
pub counted : {q : Request} {text : List ℕ} {r : Reply} {was is : Slices} → Stepped q text r was is
    → length is.buffer ≡ Limit.buffer → BytesCounted is.buffer (count_of r)
counted {r = r} {is = is} st size =
    let e : length (take (count_of r) is.buffer) ≡ (count_of r) = st.rules.count in
    record { low = omega (arith, length-take (count_of r) is.buffer); high = omega (arith, length-take (count_of r) is.buffer) }

-- its answer is a reply's
reply-said : (r : Reply) (bytes : List ℕ) → length bytes ≡ count_of r → Said (reply_answer r bytes)
reply-said r bytes e = record {
  reply = r;
  is = ap (reply_answer r) (answer-bytes r bytes);
  count = sym e ∙ ap length (sym (answer-bytes r bytes));
}

pub good-played : (q : Request) (r : Reply) (ns text b l w buffer scratch b' l' w' buffer' scratch' out out' : List ℕ) (number at n : ℕ)
    → line_fits (op (nth ns 0)) ns ≡ true → Says q ns
    → text ≡ (line_call (op (nth ns 0)) ns).text → length buffer ≡ Limit.buffer → length scratch ≡ Limit.scratch
    → Stepped q text r (slices b l w buffer scratch) (slices b' l' w' buffer' scratch')
    → Put ANSWER out at (line_of (number ∷ answer_of (op q.number) (reply_answer r (take (count_of r) buffer')))) out' n
    → Played ns number b l w b' l' w' out at out' n
good-played q r ns text b l w buffer scratch b' l' w' buffer' scratch' out out' number at n fits asked t bs ss st put =
    let e : call_of q text (length buffer) (length scratch) ≡ line_call (op (nth ns 0)) ns = same-call q ns text buffer scratch asked t bs ss in
    let m : q.number ≡ nth ns 0 = same_number q ns asked in
    record {
      choice = st.rules.choice;
      allowed = λ _. subst (λ (c : Call). Allowed (view b l w) c st.rules.choice) e st.rules.allowed;
      answer = reply_answer r (take (count_of r) buffer');
      said = reply-said r (take (count_of r) buffer') st.rules.count;
      rules = line-good st.rules.choice (view b l w) ns fits
          ∙ ap (λ (c : Call). rule (view b l w) c st.rules.choice) (sym e) ∙ st.rules.rules;
      exact = λ _. ap (step_run b l w) (sym e)
          ∙ (λ d. record {
            answer = sym st.exact.replies.answer d;
            bytes = sym st.exact.store.bytes d;
            links = sym st.exact.store.links d;
            words = sym st.exact.store.words d;
          });
      bad = λ f. absurd (true≢false (sym fits ∙ f));
      formed = st.rules.formed;
      wrote = subst (λ (k : ℕ). Put ANSWER out at (line_of (number ∷ answer_of (op k) (reply_answer r (take (count_of r) buffer')))) out' n) m put;
    }

-- ---- a bad line

refusal-line : (o : Op) → answer_of o (code 2) ≡ 2 ∷ []
unfolding answer_of code
refusal-line o = refl

refusal-said : Said (code 2)
unfolding reply_answer code
refusal-said = record { reply = Err OutOfRange; is = refl; count = refl }

no-choice : Choice
no-choice = record { object = 0; cap = 0 }

pub bad-played : {line b l w out out' : List ℕ} {number at n : ℕ} → WellFormed b l w → Misfits line
    → Put REFUSAL out at (line_of (number ∷ 2 ∷ [])) out' n
    → Plays line number b l w b l w out at out' n
bad-played {line} {b} {l} {w} {out} {out'} {number} {at} {n} f m put = record {
  numbers = m.numbers;
  means = m.means;
  played = record {
    choice = no-choice;
    allowed = λ g. absurd (true≢false (sym g ∙ m.bad));
    answer = code 2;
    said = refusal-said;
    rules = line-bad no-choice (view b l w) m.numbers m.bad;
    exact = λ g. absurd (true≢false (sym g ∙ m.bad));
    bad = λ _. record { bytes = refl; links = refl; words = refl };
    formed = f;
    wrote = record {
      wrote = (subst (λ (k : List ℕ). Put REFUSAL out at (line_of (number ∷ k)) out' n) (sym (refusal-line (op (nth m.numbers 0)))) put).wrote;
      room = omega (arith, put.room);
    };
  };
}
