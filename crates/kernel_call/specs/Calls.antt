-- A call on any slices: 1 where the store is not well formed, else the step of the kernel.
use Rattle.std.specs.Prelude.{ℕ, ◌≡◌, List}
use Rattle.rules.specs.Code as Code
use Rattle.layout.specs.WellFormed.{WellFormed}
use Rattle.call_steps.specs.declared.request.Request.{Request}
use Rattle.call_steps.specs.Refuses.{Refuses}
use Rattle.kernel_step.specs.Slices.{Slices}
use Rattle.kernel_step.specs.Steps.{Stepped}
use Rattle.call_steps.specs.Request.{Reply}

-- the refusal n, and no slice changed
pub record Nothing (n : ℕ) (r : Reply) (was is : Slices) : Type 0 where
  pub reply : Refuses n r
  pub slices-are : is ≡ was

abbrev pub FormedIn : Slices → Type 0
FormedIn s = WellFormed s.bytes s.links s.words

pub record Calls (q : Request) (text : List ℕ) (r : Reply) (was is : Slices) : Type 0 where
  -- "1 the store is not well formed"
  pub unsound : (FormedIn was → ⊥) → Nothing Code.ill_formed r was is
  pub steps : FormedIn was → Stepped q text r was is
