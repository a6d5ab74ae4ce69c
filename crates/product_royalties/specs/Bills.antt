-- The promise of a bill, in 02's order of answers: 18, then the withdraw's own.
use Rattle.std.specs.Prelude.{ℕ, ◌+◌, ◌≤◌, ◌<◌, ◌≡◌, true, false, [], eqb}
use Rattle.rules.specs.Code as Code
use Rattle.call_steps.specs.declared.request.Name.{Name}
use Rattle.call_steps.specs.declared.request.Capability.{Capability}
use Rattle.values.specs.Refusals.{code_of}
use Rattle.call_steps.specs.Request.{Reply, withdraw_request}
use Rattle.kernel_step.specs.Slices.{Slices}
use Rattle.kernel_call.specs.Calls.{Calls}
use Rattle.product_royalties.specs.declared.billed.Billed.{Billed}
use Rattle.product_royalties.specs.Charge.{max_count, bill_for}

-- ---- what a bill hands back

unfoldable pub done_bill : (total sum : ℕ) → Billed
done_bill total sum = record { code = Code.done; count = total; sum = sum }

-- nothing is taken
unfoldable pub refused_bill : (code p : ℕ) → Billed
refused_bill code p = record { code = code; count = p; sum = 0 }

-- by the reply to the withdraw of the sum: "A done bill hands back p + n, a refused one p."
unfoldable pub billed_by : (p total sum : ℕ) → Reply → Billed
billed_by p total sum r = elim (eqb (code_of r) Code.done) [ true ↦ done_bill total sum | false ↦ refused_bill (code_of r) p ]

-- ---- the promise

-- no call is made
pub record Unmade (p : ℕ) (r : Billed) (was is : Slices) : Type 0 where
  pub billed : r ≡ refused_bill Code.count_passes p
  pub slices-are : is ≡ was

-- "taken by withdraw from the presented capability"
pub record Withdraws (caller : Name) (x : Capability) (p n : ℕ) (r : Billed) (was is : Slices) : Type 0 where
  pub reply : Reply
  pub call : Calls (withdraw_request caller x (bill_for p n)) [] reply was is
  pub billed : r ≡ billed_by p (p + n) (bill_for p n) reply

-- the caller presents x for n more picks of a pattern whose count is p; r is what is handed back
pub record Bills (caller : Name) (x : Capability) (p n : ℕ) (r : Billed) (was is : Slices) : Type 0 where
  -- "18, the count would pass 4,294,967,295, given before the withdraw is tried"
  pub passes : max_count < p + n → Unmade p r was is
  pub withdraws : p + n ≤ max_count → Withdraws caller x p n r was is
