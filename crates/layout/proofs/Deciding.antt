-- Answers that are right both ways: yes, no, and what follows from another such answer.
use Prim.Native.Nat.{ℕ, ◌≤◌}
use mathlib.Core.Path.{◌≡◌, refl, sym, ap, ◌∙◌}
use mathlib.Core.Logic.{◌≢◌}
use mathlib.Core.Bool.{Bool, true, false, not, false≢true}
use lib.Dec.{eqb, leb}
use borrow.Author.Tests.{eqb-true, eq-eqb, eqb-false, ne_eqb, leb-true, le-leb, not-true}
use Rattle.layout.specs.Decides.{Decides}

pub yes-it : {P : Type 0} → P → Decides P true
yes-it p = record { sound = λ e. p; complete = λ q. refl }

pub no-it : {P : Type 0} → (P → ⊥) → Decides P false
no-it n = record { sound = λ e. absurd (false≢true e); complete = λ p. absurd (n p) }

-- the same answer serves an equivalent question
pub as-well : {P Q : Type 0} {r : Bool} → Decides P r → (P → Q) → (Q → P) → Decides Q r
as-well d f g = record { sound = λ e. f (d.sound e); complete = λ q. d.complete (g q) }

-- what was answered no does not hold
pub refuted : {P : Type 0} {r : Bool} → Decides P r → r ≡ false → P → ⊥
refuted d e p = false≢true (sym e ∙ d.complete p)

-- what was answered yes holds
pub granted : {P : Type 0} {r : Bool} → Decides P r → r ≡ true → P
granted d e = d.sound e

-- ---- tests on numbers

pub equal : (a b : ℕ) → Decides (a ≡ b) (eqb a b)
equal a b = record { sound = eqb-true a b; complete = eq-eqb a b }

pub at_most : (a b : ℕ) → Decides (a ≤ b) (leb a b)
at_most a b = record { sound = leb-true a b; complete = le-leb a b }

pub differs : (a b : ℕ) → Decides (a ≢ b) (not (eqb a b))
differs a b = record {
  sound = λ e. eqb-false a b (not-true (eqb a b) e);
  complete = λ h. ap not (ne_eqb a b h);
}
