-- Two calls with scratches that are long enough come to the same run, or both are refused by 1. What is compared are numbers, and these
-- are equal or are not.
use Prim.Native.Nat.{ℕ, ◌≤◌}
use mathlib.Core.Path.{◌≡◌, sym, ap, ◌∙◌}
use mathlib.Core.List.{List, List-discrete}
use native.Mathlib.Decide.{ℕ_discrete}
use lib.ListN.{length}
use Rattle.rules.specs.Limit as Limit
use Rattle.rules.specs.Call.{Answer}
use Rattle.call_steps.specs.declared.request.Request.{Request}
use Rattle.call_steps.specs.Request.{Reply, call_of, answer_of}
use Rattle.call_steps.specs.Run.{Ran, overlay}
use Rattle.call_steps.proofs.Replying.{answers-code}
use Rattle.kernel_step.specs.Slices.{Slices, slices}
use Rattle.kernel_step.specs.Run.{step_run}
use Rattle.kernel_step.specs.Steps.{front}
use Rattle.kernel_step.specs.Theorems.{SameRun}
use Rattle.kernel_step.proofs.Theorems.{same-run}
use Rattle.kernel_call.specs.Calls.{FormedIn, Calls}
use Rattle.kernel_call.specs.Theorems.{Same, SameTree}
use Rattle.kernel_call.proofs.Calling.{either_way}

module _ (q : Request) (text b l w buffer scratch scratch' : List ℕ) (r r' : Reply) (is is' : Slices)
    (long : Limit.scratch ≤ length scratch) (long' : Limit.scratch ≤ length scratch')
    (c : Calls q text r (slices b l w buffer scratch) is)
    (c' : Calls q text r' (slices b l w buffer scratch') is') where
  abbrev Formed : Type 0
  Formed = FormedIn (slices b l w buffer scratch)

  run-same : step_run b l w (call_of q text (length buffer) (length scratch'))
      ≡ step_run b l w (call_of q text (length buffer) (length scratch))
  unfolding SameRun
  run-same = same-run b l w q text (length buffer) (length scratch') (length scratch) long' long

  -- on a well-formed store
  stepped : Formed → Same r r' is is'
  stepped f =
      let e = (c.steps f).exact in
      let e' = (c'.steps f).exact in
      record {
        answer = e'.replies.answer ∙ ap (λ (x : Ran). x.answer) run-same ∙ sym e.replies.answer;
        store = record {
          bytes = e'.store.bytes ∙ ap (λ (x : Ran). x.bytes) run-same ∙ sym e.store.bytes;
          links = e'.store.links ∙ ap (λ (x : Ran). x.links) run-same ∙ sym e.store.links;
          words = e'.store.words ∙ ap (λ (x : Ran). x.words) run-same ∙ sym e.store.words;
        };
        buffer = e'.replies.buffer-is ∙ ap (λ (x : Ran). overlay x.answer.bytes buffer) run-same
            ∙ sym e.replies.buffer-is;
      }

  -- on any other
  refused : (Formed → ⊥) → Same r r' is is'
  refused bad =
      let n = c.unsound bad in
      let n' = c'.unsound bad in
      record {
        answer = (answers-code is'.buffer n'.reply).answer ∙ sym (answers-code is.buffer n.reply).answer;
        store = record {
          bytes = ap (λ (s : Slices). s.bytes) n'.slices-are ∙ sym (ap (λ (s : Slices). s.bytes) n.slices-are);
          links = ap (λ (s : Slices). s.links) n'.slices-are ∙ sym (ap (λ (s : Slices). s.links) n.slices-are);
          words = ap (λ (s : Slices). s.words) n'.slices-are ∙ sym (ap (λ (s : Slices). s.words) n.slices-are);
        };
        buffer = ap (λ (s : Slices). s.buffer) n'.slices-are ∙ sym (ap (λ (s : Slices). s.buffer) n.slices-are);
      }

  -- what follows from either, and can be decided
  decided : {P : Type 0} → Dec P → (Same r r' is is' → P) → P
  decided d get = either_way d (λ f. get (stepped f)) (λ bad. get (refused bad))

  abbrev answer : Answer
  answer = answer_of r (front r is)

  abbrev answer' : Answer
  answer' = answer_of r' (front r' is')

  number : (f : Answer → ℕ) → f answer' ≡ f answer
  number f = decided (ℕ_discrete (f answer') (f answer)) (λ s. ap f s.answer)

  list : (x y : List ℕ) → (Same r r' is is' → x ≡ y) → x ≡ y
  list x y get = decided (List-discrete ℕ_discrete x y) get

  answer-is : answer' ≡ answer
  answer-is d = record {
    code = number (λ a. a.code) d;
    capability = record {
      name = record {
        volume = number (λ a. a.capability.name.volume) d;
        serial = number (λ a. a.capability.name.serial) d;
      };
      password = record {
        p1 = number (λ a. a.capability.password.p1) d;
        p2 = number (λ a. a.capability.password.p2) d;
      };
    };
    length = number (λ a. a.length) d;
    moneyword = number (λ a. a.moneyword) d;
    sum = number (λ a. a.sum) d;
    bytes = list answer'.bytes answer.bytes (λ s. ap (λ (a : Answer). a.bytes) s.answer) d;
  }

  same : Same r r' is is'
  same = record {
    answer = answer-is;
    store = record {
      bytes = list is'.bytes is.bytes (λ s. s.store.bytes);
      links = list is'.links is.links (λ s. s.store.links);
      words = list is'.words is.words (λ s. s.store.words);
    };
    buffer = list is'.buffer is.buffer (λ s. s.buffer);
  }

pub same-tree : SameTree
unfolding SameTree
same-tree q text b l w buffer scratch scratch' r r' is is' long long' c c' =
    same q text b l w buffer scratch scratch' r r' is is' long long' c c'
