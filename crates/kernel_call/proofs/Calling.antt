-- The two ways that a call goes, and what is so in both.
use Prim.Native.Nat.{ℕ, ◌≤◌}
use mathlib.Core.Path.{◌≡◌, refl}
use mathlib.Core.Logic.Dec
use mathlib.Core.List.{List, [], ◌∷◌}
use native.Mathlib.Omega.{arith}
use native.Mathlib.Decide.{dec_le}
use lib.ListN.{length, length-take}
use Rattle.rules.specs.Code as Code
use Rattle.call_steps.specs.declared.request.Request.{Request}
use Rattle.kernel_step.specs.Slices.{Slices}
use Rattle.kernel_step.specs.Steps.{Stepped}
use Rattle.kernel_call.specs.Calls.{Nothing, FormedIn, Calls}
use Rattle.call_steps.specs.Request.{Reply, count_of}

-- a slice without cells, as products lend it
pub no_cells : (l : List ℕ) → length l ≡ 0 → l ≡ []
no_cells [] z = refl
no_cells (x ∷ l) z = absurd (omega arith)

-- what is so on a well-formed store and on any other, and can be decided, is so: which of the two it is need not be known
pub either_way : {F P : Type 0} → Dec P → (F → P) → ((F → ⊥) → P) → P
either_way d formed other = (Dec.not-not d).0 (λ n. n (other (λ f. n (formed f))))

module _ {q : Request} {text : List ℕ} {r : Reply} {was is : Slices} where
  pub calls-unsound : (FormedIn was → ⊥) → Nothing Code.ill_formed r was is → Calls q text r was is
  calls-unsound bad n = record { unsound = λ _. n; steps = λ f. absurd (bad f) }

  pub calls-step : FormedIn was → Stepped q text r was is → Calls q text r was is
  calls-step f s = record { unsound = λ bad. absurd (bad f); steps = λ _. s }

  -- the reply counts no more bytes than the buffer has
  pub count_fits : Calls q text r was is → count_of r ≤ length is.buffer
  count_fits c = either_way (dec_le (count_of r) (length is.buffer))
      (λ f. omega (arith, length-take (count_of r) is.buffer, (c.steps f).rules.count))
      (λ bad. omega (arith, (c.unsound bad).reply.none))
