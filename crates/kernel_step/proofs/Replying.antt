-- The replies of the code, and its slices, by the runs: a reply with no bytes, and one with bytes at the buffer's front.
use Prim.Native.Nat.{ℕ}
use mathlib.Core.Path.{◌≡◌, refl, sym, ap, ◌∙◌, subst}
use mathlib.Core.Logic.{◌≢◌}
use mathlib.Core.Bool.{true, false}
use mathlib.Core.List.{List, []}
use lib.ListN.{length, take}
use Rattle.rules.specs.Rights.{Op, op, asked, day_number}
use Rattle.rules.specs.Call.{Call, Answer, code}
use Rattle.rules.proofs.Tests.{by_bool, pick_yes, pick-not}
use Rattle.rules.proofs.Outcomes.{host-op}
use Rattle.call_steps.specs.declared.request.Request.{Request}
use Rattle.call_steps.specs.Request.{Reply, call_of, answer_of}
use Rattle.call_steps.specs.Refuses.{Refuses}
use Rattle.call_steps.specs.Replies.{Answers, Replies, Fills}
use Rattle.call_steps.specs.Run.{Ran, over, overlay}
use Rattle.call_steps.proofs.Replying.{answers-code}
use Rattle.call_enter.specs.Entry.{OwnPart}
use Rattle.call_prune.specs.Scratch.{scratch_left}
use Rattle.call_prune.proofs.Clearing as Clearing
use Rattle.kernel_step.specs.Slices.{Slices, slices, Store, call_on}
use Rattle.kernel_step.specs.Ends.{clears, scratch_after_call, Ends, OwnEndsOf}
use Rattle.values.specs.Refusals.{code_of}
use Rattle.call_steps.proofs.Replying.{answer-code, answer-bytes}

-- ---- the scratch

module _ (o : Op) (n : ℕ) (scratch : List ℕ) where
  -- a call that does not clear it
  scratch-kept : clears o ≡ false → scratch ≡ scratch_after_call o n scratch
  unfolding scratch_after_call
  scratch-kept e = sym (pick-not (clears o) _ scratch e)

  -- one that does
  scratch-cleared : clears o ≡ true → scratch_left n scratch ≡ scratch_after_call o n scratch
  unfolding scratch_after_call
  scratch-cleared e = sym (pick_yes (clears o) (scratch_left n scratch) scratch e)

  -- a refusal
  scratch-refused : n ≢ 0 → scratch ≡ scratch_after_call o n scratch
  scratch-refused nz = by_bool (clears o)
      (λ e. Clearing.scratch-kept n scratch nz ∙ scratch-cleared e)
      (λ e. scratch-kept e)

-- ---- a reply with no bytes

module _ {r : Reply} {b l w : List ℕ} {x : Ran} (R : Replies r b l w x) where
  no_bytes : x.answer.bytes ≡ []
  no_bytes = ap (λ (a : Answer). a.bytes) (sym R.answer) ∙ answer-bytes r []

  replied-code : code_of r ≡ x.answer.code
  replied-code = sym (answer-code r []) ∙ ap (λ (a : Answer). a.code) R.answer

  replied : (buffer : List ℕ) → Answers x.answer r buffer buffer
  unfolding overlay
  replied buffer = record {
    answer = ap (λ n. answer_of r (take n buffer)) R.none ∙ R.answer;
    count = R.none ∙ ap length (sym no_bytes);
    buffer-is = ap (λ t. overlay t buffer) (sym no_bytes);
  }

-- ---- a run that is over

-- a refusal leaves the buffer and the scratch
pub ends-refused : {c : Call} {x : Ran} {n : ℕ} {r : Reply} {was is : Slices} → n ≢ 0 → Refuses n r
    → over n is.bytes is.links is.words ≡ x → is.buffer ≡ was.buffer → is.scratch ≡ was.scratch
    → Ends c x r was is
unfolding over code
ends-refused {c} {x} {n} {r} {was} {is} nz R e same kept = subst (λ y. Ends c y r was is) e (record {
  replies = subst (λ d. Answers (code n) r d is.buffer) same (answers-code is.buffer R);
  store = record { bytes = refl; links = refl; words = refl };
  scratch = kept ∙ scratch-refused (op c.number) n was.scratch nz;
})

-- and so does a reply with no bytes, of a call that does not clear the scratch
pub ends-replies : {c : Call} {x : Ran} {r : Reply} {was is : Slices} → clears (op c.number) ≡ false
    → Replies r is.bytes is.links is.words x → is.buffer ≡ was.buffer → is.scratch ≡ was.scratch → Ends c x r was is
ends-replies {c} {x} {r} {was} {is} free R same kept = record {
  replies = subst (λ d. Answers x.answer r d is.buffer) same (replied R is.buffer);
  store = record { bytes = R.bytes; links = R.links; words = R.words };
  scratch = kept ∙ scratch-kept (op c.number) x.answer.code was.scratch free;
}

-- call 17 is such a call
pub day-keeps : (n : ℕ) → n ≡ day_number → clears (op n) ≡ false
unfolding clears asked
day-keeps n e = ap clears (host-op n e)

-- what ends as the run x ends as an equal one
pub ends_same : {c : Call} {x y : Ran} {r : Reply} {was is : Slices} → Ends c x r was is → x ≡ y → Ends c y r was is
ends_same {c} {x} {y} {r} {was} {is} E e = subst (λ z. Ends c z r was is) e E

-- and where only the store's slices were others before
pub ends_of : {c : Call} {x y : Ran} {r : Reply} {was is : Slices} → Ends c x r was is → x ≡ y
    → {b l w : List ℕ} → Ends c y r (slices b l w was.buffer was.scratch) is
ends_of E e = let F = ends_same E e in record { replies = F.replies; store = F.store; scratch = F.scratch }

-- ---- an arm of the decision, of any own part: m is the call's number

module _ (own : OwnPart) (q : Request) (text : List ℕ) (me k : ℕ) (was : Slices) (m : ℕ) (e : q.number ≡ m) where
  abbrev run : ℕ → Ran
  run i = own was.bytes was.links was.words (call_on q text was) me k (op i)

  arm : {r : Reply} {is : Slices} → Answers (run m).answer r was.buffer is.buffer
      → Store is (run m).bytes (run m).links (run m).words
      → is.scratch ≡ scratch_after_call (op m) (run m).answer.code was.scratch → OwnEndsOf own q text me k r was is
  unfolding call_of
  arm {r} {is} R S left = subst (λ i. Ends (call_on q text was) (run i) r was is) (sym e) (record {
    replies = R;
    store = S;
    scratch = left ∙ ap (λ i. scratch_after_call (op i) (run m).answer.code was.scratch) (sym e);
  })

  -- a reply that has bytes in the buffer
  pub arm-fills : {r : Reply} {is : Slices} → clears (op m) ≡ false
      → Fills r is.bytes is.links is.words was.buffer is.buffer (run m) → is.scratch ≡ was.scratch
      → OwnEndsOf own q text me k r was is
  arm-fills free R kept = arm R.answers (record { bytes = R.bytes; links = R.links; words = R.words })
      (kept ∙ scratch-kept (op m) (run m).answer.code was.scratch free)

  -- one with no bytes
  reply-arm : {r : Reply} {is : Slices} → Replies r is.bytes is.links is.words (run m)
      → is.buffer ≡ was.buffer → is.scratch ≡ scratch_after_call (op m) (code_of r) was.scratch
      → OwnEndsOf own q text me k r was is
  reply-arm {r} {is} R same left = arm
      (subst (λ d. Answers (run m).answer r d is.buffer) same (replied R is.buffer))
      (record { bytes = R.bytes; links = R.links; words = R.words })
      (left ∙ ap (λ n. scratch_after_call (op m) n was.scratch) (replied-code R))

  pub arm-reply : {r : Reply} {is : Slices} → clears (op m) ≡ false
      → Replies r is.bytes is.links is.words (run m) → is.buffer ≡ was.buffer → is.scratch ≡ was.scratch
      → OwnEndsOf own q text me k r was is
  arm-reply {r} free R same kept = reply-arm R same (kept ∙ scratch-kept (op m) (code_of r) was.scratch free)

  -- delete_cap, rename_obj
  pub arm-cleared : {r : Reply} {is : Slices} → clears (op m) ≡ true
      → Replies r is.bytes is.links is.words (run m) → is.buffer ≡ was.buffer
      → is.scratch ≡ scratch_left (code_of r) was.scratch → OwnEndsOf own q text me k r was is
  arm-cleared {r} all R same left = reply-arm R same (left ∙ scratch-cleared (op m) (code_of r) was.scratch all)
