-- 02, CR 6, "The tree that remains is the one that the old call left with 512.": what a call answers and leaves is the same with any
-- two scratches that are long enough.
use Rattle.std.specs.Prelude.{ℕ, ◌≤◌, ◌≡◌, List, length}
use Rattle.rules.specs.Limit as Limit
use Rattle.call_steps.specs.declared.request.Request.{Request}
use Rattle.call_steps.specs.Request.{Reply, answer_of}
use Rattle.kernel_step.specs.Slices.{Slices, slices, Store}
use Rattle.kernel_step.specs.Steps.{front}
use Rattle.kernel_call.specs.Calls.{Calls}

-- two calls answer and leave the same; of the scratch nothing is said
pub record Same (r r' : Reply) (is is' : Slices) : Type 0 where
  pub answer : answer_of r' (front r' is') ≡ answer_of r (front r is)
  pub store : Store is' is.bytes is.links is.words
  pub buffer : is'.buffer ≡ is.buffer

-- of every request, on a store that is well formed or not, with scratches of any contents
unfoldable pub SameTree : Type 0
SameTree = (q : Request) (text b l w buffer scratch scratch' : List ℕ) (r r' : Reply) (is is' : Slices)
    → Limit.scratch ≤ length scratch → Limit.scratch ≤ length scratch'
    → Calls q text r (slices b l w buffer scratch) is
    → Calls q text r' (slices b l w buffer scratch') is'
    → Same r r' is is'
