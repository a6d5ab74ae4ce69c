-- A reply and the slices left as a run: a refusal, a run that goes on, a done call with nothing to tell, bytes at the
-- buffer's front.
use Prim.Native.Nat.{ℕ}
use mathlib.Core.Path.{◌≡◌, refl, sym, ap, ◌∙◌, subst}
use mathlib.Core.Logic.{◌≢◌}
use mathlib.Core.List.{List, []}
use lib.ListN.{length, take, drop}
use Rattle.std.specs.Prelude.{Ok, Err}
use lib.Seq.{take-append_seam}
use Rattle.rules.specs.Store.{Name, Password, State}
use Rattle.rules.specs.Call.{Answer, Outcome, code, done, hands_back, hands_over}
use Rattle.layout.specs.View.{view}
use Rattle.values.specs.declared.refusal.Refusal.{Refusal}
use Rattle.values.specs.Refusals.{number_of, code_of}
use Rattle.values.proofs.Numbers.{number-some}
use Rattle.call_steps.specs.Request.{Reply, answer_of, count_of}
use Rattle.call_steps.specs.Run.{Ran, over, handed_over, settled, overlay}
use Rattle.call_steps.specs.Refuses.{Refuses}
use Rattle.call_steps.specs.Replies.{Gives, HandsOver, Answers, Replies, Fills}
use Rattle.call_steps.proofs.Meeting.{stopped, goes_on}

-- ---- the code of a reply

-- a reply's code is its answer's, and the bytes are those at the buffer's front
pub answer-code : (r : Reply) (bytes : List ℕ) → (answer_of r bytes).code ≡ code_of r
unfolding answer_of
answer-code (Ok x) bytes = refl
answer-code (Err r) bytes = refl

pub answer-bytes : (r : Reply) (bytes : List ℕ) → (answer_of r bytes).bytes ≡ bytes
unfolding answer_of
answer-bytes (Ok x) bytes = refl
answer-bytes (Err r) bytes = refl

-- `Err` refuses
pub refuses : (r : Refusal) → Refuses (number_of r) (Err r)
unfolding answer_of code
refuses r = record { answer = refl; none = refl }

pub refused-code : {n : ℕ} {r : Reply} → Refuses n r → code_of r ≡ n
unfolding answer_of code
refused-code {n} {r} R = sym (answer-code r []) ∙ ap (λ (a : Answer). a.code) R.answer

pub gives-code : {o : State → Outcome} {r : Reply} → Gives o r → (s : State) → code_of r ≡ (o s).answer.code
unfolding answer_of
gives-code {o} {r} G s = sym (answer-code r []) ∙ ap (λ (a : Answer). a.code) (G.answer s)

-- ---- a reply with no bytes

module _ {b l w : List ℕ} {r : Reply} where
  replies-over : {n : ℕ} → Refuses n r → Replies r b l w (over n b l w)
  unfolding over
  replies-over R = record { none = R.none; answer = R.answer; bytes = refl; links = refl; words = refl }

  -- a refusal
  pub refused-is : {n : ℕ} {x : Ran} → Refuses n r → over n b l w ≡ x → Replies r b l w x
  refused-is R e = subst (Replies r b l w) e (replies-over R)

  -- a done call with nothing to tell
  pub done-is : {x : Ran} → Gives done r → over 0 b l w ≡ x → Replies r b l w x
  unfolding done
  done-is G e = refused-is (record { answer = G.answer (view b l w); none = G.none }) e

  -- the refusal m, and nothing changed
  pub replies-stopped : {n : ℕ} (x : Ran) (m : ℕ) → n ≡ m → m ≢ 0 → Refuses m r → Replies r b l w (settled n b l w x)
  replies-stopped x m e nz R = refused-is R (stopped b l w x m e nz)

-- `Err` is the refusal that is met, and nothing changed
pub replies-refused : {b l w : List ℕ} {n : ℕ} (x : Ran) (r : Refusal) → n ≡ number_of r → Replies (Err r) b l w (settled n b l w x)
replies-refused x r e = replies-stopped x (number_of r) e (number-some r) (refuses r)

-- where none is met, the run x
pub replies-done : (b l w : List ℕ) {b' l' w' : List ℕ} {r : Reply} {n : ℕ} (x : Ran) → n ≡ 0
    → Replies r b' l' w' x → Replies r b' l' w' (settled n b l w x)
replies-done b l w {b'} {l'} {w'} {r} x z R = subst (Replies r b' l' w') (goes_on b l w x z) R

-- the answer of a new capability says nothing of the state that is left
pub hands-back-is : (n : Name) (p : Password) (s t : State)
    → hands_back n p s ≡ record { answer = (hands_back n p t).answer; after = s }
unfolding hands_back
hands-back-is n p s t = refl

-- ---- a reply that may have bytes

-- a code alone leaves the buffer
pub answers-code : {n : ℕ} {r : Reply} (buffer : List ℕ) → Refuses n r → Answers (code n) r buffer buffer
unfolding code overlay
answers-code {n} {r} buffer R = record {
  answer = ap (λ i. answer_of r (take i buffer)) R.none ∙ R.answer;
  count = R.none;
  buffer-is = refl;
}

module _ {b l w : List ℕ} {r : Reply} (buffer : List ℕ) {x : Ran} where
  -- a refusal
  pub fills-refused : {n : ℕ} → Refuses n r → over n b l w ≡ x → Fills r b l w buffer buffer x
  unfolding over
  fills-refused R e = subst (Fills r b l w buffer buffer) e
      (record { answers = answers-code buffer R; bytes = refl; links = refl; words = refl })

  -- a sum, and bytes that stand at the buffer's front
  pub fills-done : {sum : ℕ} (xs buffer' : List ℕ) → HandsOver sum (length xs) r → buffer' ≡ overlay xs buffer
      → handed_over sum xs b l w ≡ x → Fills r b l w buffer buffer' x
  unfolding handed_over hands_over overlay
  fills-done {sum} xs buffer' H e h =
      let front : take (count_of r) buffer' ≡ xs =
      (λ d. take (H.counted d) (e d)) ∙ take-append_seam xs (drop (length xs) buffer) in
      subst (Fills r b l w buffer buffer') h (record {
        answers = record {
          answer = ap (answer_of r) front ∙ H.answer xs (view b l w);
          count = H.counted;
          buffer-is = e;
        };
        bytes = refl;
        links = refl;
        words = refl;
      })
