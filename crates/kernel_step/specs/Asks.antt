-- What the functions ask of the slices and of the call.
use Rattle.std.specs.Prelude.{ℕ, ◌≡◌, true, List}
use Rattle.rules.specs.Rights.{op, presents}
use Rattle.rules.specs.Call.{Call}
use Rattle.rules.specs.Refusals.{in_range}
use Rattle.layout.specs.WellFormed.{WellFormed}
use Rattle.call_steps.specs.Run.{Process, Held}

-- after the fee: slot me is the caller's
pub record LateAsks (b l w : List ℕ) (c : Call) (me : ℕ) : Type 0 where
  pub formed : WellFormed b l w
  pub caller : Process b l me
  pub range : in_range c ≡ true

-- after 5, 19 and 6: slot k is that of the capability presented
pub record OwnAsks (b l w : List ℕ) (c : Call) (me k : ℕ) : Type 0 where
  pub late : LateAsks b l w c me
  pub held : presents (op c.number) ≡ true → Held l k
