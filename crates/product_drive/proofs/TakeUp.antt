-- The whole part of i × C / N: its bounds, and that it grows with i.
use Prim.Native.Nat.{ℕ, ◌+◌, ◌-◌, ◌*◌, ◌/◌, ◌≤◌, ◌<◌}
use mathlib.Core.Path.{◌≡◌, ap, ◌∙◌}
use native.Mathlib.Omega.{arith}
use native.Mathlib.Nat.{zero-mul, zero-div, add-mul, mul-le-mul_right, div-mul-le_self, lt-div-mul-add, le-div_iff_mul-le}
use native.Mathlib.Nat.{mul-div_cancel_left, le_trans}
use Rattle.product_drive.specs.declared.repeat.Repeat.{Repeat}
use Rattle.product_drive.specs.Drive.{up_to, step_at}

pub up-zero : (p : Repeat) → up_to p 0 ≡ 0
unfolding up_to
up-zero p = ap (λ x. x / p.picks) (zero-mul p.counts) ∙ zero-div p.picks

module _ (p : Repeat) (some : 1 ≤ p.picks) where
  -- not above the exact i × C / N
  pub up-below : (i : ℕ) → up_to p i * p.picks ≤ i * p.counts
  unfolding up_to
  up-below i = div-mul-le_self (i * p.counts) p.picks

  -- below it by less than one count
  pub up_above : (i : ℕ) → i * p.counts < (up_to p i + 1) * p.picks
  unfolding up_to
  up_above i =
      omega (arith, lt-div-mul-add {a = i * p.counts} {b = p.picks} some, add-mul (i * p.counts / p.picks) 1 p.picks)

  pub up-all : up_to p p.picks ≡ p.counts
  unfolding up_to
  up-all = mul-div_cancel_left p.counts {n = p.picks} some

  pub up-grows : (i j : ℕ) → i ≤ j → up_to p i ≤ up_to p j
  unfolding up_to
  up-grows i j h =
      (le-div_iff_mul-le {k = p.picks} {x = i * p.counts / p.picks} {y = j * p.counts} some).1
      (le_trans (up-below i) (mul-le-mul_right p.counts h))

  pub up-most : (i : ℕ) → i ≤ p.picks → up_to p i ≤ p.counts
  up-most i h = omega (arith, up-grows i p.picks h, up-all)

  -- the steps up to pick i - 1 and its own step are those up to i
  pub up-with-step : (i : ℕ) → up_to p (i - 1) + step_at p i ≡ up_to p i
  unfolding step_at
  up-with-step i = omega (arith, up-grows (i - 1) i (omega arith))
