-- The promise of a call on a well-formed store: what it answers and leaves is what the rules give.
use Rattle.std.specs.Prelude.{ℕ, ◌≤◌, ◌<◌, ◌≡◌, ◌≢◌, List, length, take}
use Rattle.rules.specs.Rights.{op, fee_of, day_number}
use Rattle.rules.specs.Call.{Call, Choice}
use Rattle.rules.specs.Code as Code
use Rattle.rules.specs.Refusals.{caller}
use Rattle.rules.specs.Rule.{rule}
use Rattle.rules.specs.Demand.{Allowed}
use Rattle.layout.specs.WellFormed.{WellFormed}
use Rattle.call_steps.specs.declared.request.Request.{Request}
use Rattle.call_steps.specs.Request.{Reply, count_of, answer_of}
use Rattle.call_steps.specs.Paying.{terminated_bytes, paid_words}
use Rattle.call_steps.specs.Run.{overlay}
use Rattle.call_make.specs.Runs.{NewWereFree}
use Rattle.kernel_step.specs.Slices.{Slices, Store, state_of, call_on}
use Rattle.kernel_step.specs.Ends.{scratch_after_call, StepEnds}
use Rattle.values.specs.Refusals.{code_of}

-- what a refusal leaves of the store's slices
pub record RefusalLeaves (c : Call) (code : ℕ) (was is : Slices) : Type 0 where
  -- 2 and 3 change nothing
  pub nothing : Code.ill_formed ≤ code → code < Code.cannot_pay → Store is was.bytes was.links was.words
  -- 4 marks the caller terminated
  pub marks : code ≡ Code.cannot_pay → Store is (terminated_bytes was.bytes (caller (state_of was) c)) was.links was.words
  -- later ones move only the fee
  pub fee : c.number ≢ day_number → Code.cannot_pay < code
      → Store is was.bytes was.links (paid_words was.words (caller (state_of was) c) (fee_of c.number))
  -- call 17 has none: its refusals change nothing
  pub host : c.number ≡ day_number → Code.done < code → Store is was.bytes was.links was.words

-- the bytes at the buffer's front that the reply counts
abbrev pub front : Reply → Slices → List ℕ
front r is = take (count_of r) is.buffer

pub record Steps (c : Call) (r : Reply) (was is : Slices) : Type 0 where
  -- the free slots that a done call took, where 01 leaves open which
  pub choice : Choice
  pub allowed : Allowed (state_of was) c choice
  -- the answer and the store are those of the rules
  pub rules : rule (state_of was) c choice ≡ record { answer = answer_of r (front r is); after = state_of is }
  -- "Every call keeps it" well formed
  pub formed : WellFormed is.bytes is.links is.words
  -- the answer's bytes are at the buffer's front, and no later byte is changed
  pub count : length (front r is) ≡ count_of r
  pub buffer-is : is.buffer ≡ overlay (front r is) was.buffer
  pub scratch-is : is.scratch ≡ scratch_after_call (op c.number) (code_of r) was.scratch
  pub refused : RefusalLeaves c (code_of r) was is
  -- the blocks of an object that the call made were free
  pub blocks : NewWereFree was.links is.links

-- the promise, and beside it the exact run, which says where 01 leaves a choice what this kernel takes
pub record Stepped (q : Request) (text : List ℕ) (r : Reply) (was is : Slices) : Type 0 where
  pub rules : Steps (call_on q text was) r was is
  pub exact : StepEnds q text r was is
