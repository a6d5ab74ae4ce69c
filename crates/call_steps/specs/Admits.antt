-- Refusals 5, 19 and 6, by the right that is asked, and the slot that is told with them.
use Rattle.std.specs.Prelude.{ℕ, ◌≡◌, Ok, Err, Result}
use Rattle.rules.specs.Code as Code
use Rattle.rules.specs.Store.{State}
use Rattle.rules.specs.Call.{Capability}
use Rattle.rules.specs.Password.{presented}
use Rattle.rules.specs.Refusals.{first, showing}
use Rattle.values.specs.Refusals.{number_of}
use Rattle.call_steps.specs.declared.present.Denied.{Denied}

-- 0, or the refusal's number
abbrev pub code_told : Result ℕ Denied → ℕ
code_told (Ok k) = Code.done
code_told (Err d) = number_of d.refusal

-- the slot, of a refusal too
abbrev pub slot_told : Result ℕ Denied → ℕ
slot_told (Ok k) = k
slot_told (Err d) = d.slot

pub record Admits (s : State) (me : ℕ) (x : Capability) (right : ℕ) (r : Result ℕ Denied) : Type 0 where
  pub slot : slot_told r ≡ presented s me x
  pub code : code_told r ≡ first (showing s (presented s me x) right)
