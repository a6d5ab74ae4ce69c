-- The promise of the step from its exact run: what it comes to for any run that meets the rules, then for the kernel's.
use Prim.Native.Nat.{ℕ}
use mathlib.Core.Path.{◌≡◌, sym, ap, ◌∙◌, subst}
use mathlib.Core.List.{List}
use lib.ListN.{length}
use Rattle.rules.specs.Rights.{op}
use Rattle.rules.specs.Valid.{Valid}
use Rattle.rules.specs.Call.{Call, Answer, Outcome, Choice}
use Rattle.rules.specs.Rule.{rule}
use Rattle.rules.specs.Demand.{Words, Allowed}
use Rattle.layout.specs.View.{view}
use Rattle.layout.specs.Shape.{Shape}
use Rattle.layout.specs.WellFormed.{Sized, Cells, WellFormed}
use Rattle.call_steps.specs.declared.request.Request.{Request}
use Rattle.call_steps.specs.Request.{Reply, count_of, answer_of}
use Rattle.call_steps.specs.Run.{Ran, overlay}
use Rattle.call_make.specs.Runs.{NewWereFree}
use Rattle.call_enter.proofs.Meeting.{MeetsRule}
use Rattle.kernel_step.specs.Slices.{Slices, slices, state_of, call_on}
use Rattle.kernel_step.specs.Ends.{scratch_after_call, Ends, StepEnds}
use Rattle.kernel_step.specs.Steps.{RefusalLeaves, front, Steps, Stepped}
use Rattle.kernel_step.proofs.Meeting.{step-meets}
use Rattle.kernel_step.proofs.Taking.{blocks-free}
use Rattle.kernel_step.proofs.Refusing.{run-leaves}
use Rattle.values.specs.Refusals.{code_of}
use Rattle.call_steps.proofs.Replying.{answer-code, answer-bytes}

-- ---- any run; S is what is kept of the links

-- the fields of `Steps`, with what makes the store well formed one by one
pub record Promises (S : List ℕ → Type 0) (c : Call) (r : Reply) (was is : Slices) : Type 0 where
  pub choice : Choice
  pub allowed : Allowed (state_of was) c choice
  pub rules : rule (state_of was) c choice ≡ record { answer = answer_of r (front r is); after = state_of is }
  pub sized : Sized is.bytes is.links is.words
  pub cells : Cells is.bytes is.links
  pub kept : S is.links
  pub valid : Valid (state_of is)
  pub count : length (front r is) ≡ count_of r
  pub buffer-is : is.buffer ≡ overlay (front r is) was.buffer
  pub scratch-is : is.scratch ≡ scratch_after_call (op c.number) (code_of r) was.scratch
  pub refused : RefusalLeaves c (code_of r) was is

module _ (S : List ℕ → Type 0) {c : Call} {r : Reply} {was is : Slices} {x : Ran} (m : MeetsRule S (state_of was) c x)
    (left : RefusalLeaves c x.answer.code was (slices x.bytes x.links x.words is.buffer is.scratch))
    (E : Ends c x r was is) where
  pub promises : Promises S c r was is
  promises =
      let T = E.store in
      let bytes-are : front r is ≡ x.answer.bytes = sym (answer-bytes r _) ∙ ap (λ (a : Answer). a.bytes) E.replies.answer in
      let code_is : code_of r ≡ x.answer.code = sym (answer-code r _) ∙ ap (λ (a : Answer). a.code) E.replies.answer in
      record {
        choice = m.choice;
        allowed = m.allowed;
        rules = m.rules
            ∙ (λ d. record {
              answer = sym E.replies.answer d;
              after = view (sym T.bytes d) (sym T.links d) (sym T.words d);
            });
        sized = subst (λ b. Sized b is.links is.words) (sym T.bytes)
            (subst (λ l. Sized x.bytes l is.words) (sym T.links)
            (subst (λ w. Sized x.bytes x.links w) (sym T.words) m.sized));
        cells = subst (λ b. Cells b is.links) (sym T.bytes) (subst (Cells x.bytes) (sym T.links) m.cells);
        kept = subst S (sym T.links) m.links;
        valid = subst Valid (λ d. view (sym T.bytes d) (sym T.links d) (sym T.words d)) m.valid;
        count = ap length bytes-are ∙ sym E.replies.count;
        buffer-is = E.replies.buffer-is ∙ ap (λ t. overlay t was.buffer) (sym bytes-are);
        scratch-is = E.scratch ∙ ap (λ n. scratch_after_call (op c.number) n was.scratch) (sym code_is);
        refused = subst (RefusalLeaves c (code_of r) was)
            (λ d. slices (sym T.bytes d) (sym T.links d) (sym T.words d) is.buffer is.scratch)
            (subst (λ n. RefusalLeaves c n was (slices x.bytes x.links x.words is.buffer is.scratch))
            (sym code_is) left);
      }

-- ---- the kernel's

steps_of : {c : Call} {r : Reply} {was is : Slices} → Promises Shape c r was is → NewWereFree was.links is.links
    → Steps c r was is
steps_of p free = record {
  choice = p.choice;
  allowed = p.allowed;
  rules = p.rules;
  formed = record { sized = p.sized; cells = p.cells; shape = p.kept; valid = p.valid };
  count = p.count;
  buffer-is = p.buffer-is;
  scratch-is = p.scratch-is;
  refused = p.refused;
  blocks = free;
}

pub stepped : {q : Request} {text : List ℕ} {r : Reply} {was is : Slices}
    → WellFormed was.bytes was.links was.words → Words (call_on q text was)
    → StepEnds q text r was is → Stepped q text r was is
stepped {q} {text} {r} {was} {is} A W E =
    let m = step-meets A W in
    let left = run-leaves was (call_on q text was) is.buffer is.scratch m.choice
    (ap (λ (o : Outcome). o.answer.code) m.rules) in
    record {
      rules = steps_of (promises Shape m left E) (subst (NewWereFree was.links) (sym E.store.links)
          (blocks-free was.bytes was.links was.words (call_on q text was) A m));
      exact = E;
    }
