-- What is known where a call's own part begins.
use Rattle.std.specs.Prelude.{ℕ, ◌≡◌, true, List}
use Rattle.rules.specs.Rights.{op, presents}
use Rattle.rules.specs.Call.{Call}
use Rattle.rules.specs.Password.{presented}
use Rattle.rules.specs.Refusals.{in_range, caller}
use Rattle.layout.specs.View.{view}
use Rattle.layout.specs.WellFormed.{Plain}
use Rattle.call_steps.specs.Run.{Process, Held}

-- the slices are those that the fee left
pub record Begins (b l w : List ℕ) (c : Call) (me k : ℕ) : Type 0 where
  pub plain : Plain b l w
  pub range : in_range c ≡ true
  -- slot me is the caller's
  pub process : Process b l me
  pub who : me ≡ caller (view b l w) c
  -- slot k is that of the capability presented
  pub held : presents (op c.number) ≡ true → Held l k
  pub found : presents (op c.number) ≡ true → k ≡ presented (view b l w) me c.presented
