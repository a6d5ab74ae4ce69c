-- A reply that refuses: the rules' answer of the code alone, with no bytes in the buffer.
use Rattle.std.specs.Prelude.{ℕ, ◌≡◌, []}
use Rattle.rules.specs.Call.{code}
use Rattle.call_steps.specs.Request.{Reply, answer_of, count_of}

pub record Refuses (n : ℕ) (r : Reply) : Type 0 where
  pub answer : answer_of r [] ≡ code n
  pub none : count_of r ≡ 0
