-- The rows of a window that is N × W bytes long, and why no read is tried.
use Prim.Native.Nat.{ℕ, ◌+◌, ◌-◌, ◌*◌, ◌≤◌}
use mathlib.Core.Path.{◌≡◌, sym, ap, ◌∙◌}
use mathlib.Core.Logic.{◌≢◌}
use mathlib.Core.Bool.{true, false}
use native.Mathlib.Omega.{arith}
use native.Mathlib.Nat.{add-mul, mul-le-mul_right}
use borrow.Author.Tests.{eqb-true, eq-eqb, ne_eqb}
use Rattle.rules.specs.Code as Code
use Rattle.rules.specs.Refusals.{◌when◌, first}
use Rattle.rules.proofs.Tests.{by_bool, by-eq}
use Rattle.values.specs.declared.window.Window.{Window}
use Rattle.values.specs.declared.refusal.Refusal.{Refusal}
use Rattle.std.specs.Prelude.{Result}
use Rattle.product_drive.specs.declared.repeat.Repeat.{Repeat}
use Rattle.product_drive.specs.declared.repeat.Place.{Place}
use Rattle.product_drive.specs.Drive.{fits, holds_repeat}
use Rattle.product_drive.specs.Picks.{unread}
use Rattle.product_drive.proofs.Ranges.{placed}
use Rattle.values.specs.Refusals.{code_of}
use Rattle.product_drive.specs.Picks.{told}

-- ---- rows

-- rows up to i - 1 and one more are those up to i
pub one-row-more : (i w : ℕ) → 1 ≤ i → (i - 1) * w + w ≡ i * w
one-row-more i w h = let e : i - 1 + 1 ≡ i = omega arith in omega (arith, add-mul (i - 1) 1 w, ap (λ k. k * w) e)

-- those up to the pick at place d lie in the window
pub rows-within : (v : Window) (p : Repeat) (d : Place) → fits p d ≡ true → holds_repeat v p ≡ true
    → d.next * p.row ≤ v.end - v.start
unfolding holds_repeat
rows-within v p d f h =
    omega (arith, eqb-true (v.end - v.start) (p.picks * p.row) h, mul-le-mul_right p.row (placed p d f).high)

-- ---- why no read is tried

module _ (p : Repeat) (a : Result Window Refusal) where
  pub unread-asked : code_of a ≢ Code.done → unread p a ≡ code_of a
  unfolding unread first ◌when◌
  unread-asked nz = rw (ne_eqb (code_of a) Code.done nz)

  module _ (z : code_of a ≡ Code.done) where
    pub unread-length : holds_repeat (told a) p ≡ false → unread p a ≡ Code.wrong_length
    unfolding unread first ◌when◌
    unread-length h = rw (eq-eqb (code_of a) Code.done z, h)

    pub unread-none : holds_repeat (told a) p ≡ true → unread p a ≡ Code.done
    unfolding unread first ◌when◌
    unread-none h = rw (eq-eqb (code_of a) Code.done z, h)

  -- the question is answered, and the window is N × W bytes long
  pub read_asked : unread p a ≡ Code.done → code_of a ≡ Code.done
  read_asked h = by-eq (code_of a) Code.done (λ z. z) (λ nz. absurd (nz (sym (unread-asked nz) ∙ h)))

  pub read-holds : unread p a ≡ Code.done → holds_repeat (told a) p ≡ true
  read-holds h = by_bool (holds_repeat (told a) p) (λ y. y)
      (λ n. absurd (omega (arith, h, unread-length (read_asked h) n)))
