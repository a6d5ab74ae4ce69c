-- Sums over the numbers below n.
use Prim.Native.Nat.{ℕ, zero, suc, ◌+◌, ◌≤◌, ◌<◌}
use mathlib.Core.Path.{◌≡◌, refl, ap, ◌∙◌, fun_ext}
use mathlib.Core.Bool.{Bool, true, false, ◌&&◌}
use native.Mathlib.Omega.{arith}
use lib.Dec.{eqb}
use borrow.Author.Tests.{eq-eqb, ne_eqb}
use Rattle.rules.specs.Slots.{sum_over, one}
use Rattle.rules.proofs.Tests.{by-eq}
use Rattle.rules.specs.Questions.{sum_below}

pub below-same : (n : ℕ) (f g : ℕ → ℕ) → ((i : ℕ) → f i ≡ g i) → sum_below n f ≡ sum_below n g
below-same n f g h = ap (sum_below n) (fun_ext h)

pub below-zero : (n : ℕ) → sum_below n (λ i. 0) ≡ 0
unfolding sum_below
below-zero zero = refl
below-zero (suc n) = omega (arith, below-zero n)

below-plus : (n : ℕ) (f g : ℕ → ℕ) → sum_below n (λ i. f i + g i) ≡ sum_below n f + sum_below n g
unfolding sum_below
below-plus zero f g = refl
below-plus (suc n) f g = omega (arith, below-plus n f g)

-- ---- the order of a sum over numbers and one over slots

below-swap : (n m : ℕ) (g : ℕ → ℕ → ℕ)
    → sum_below n (λ a. sum_over m (λ i. g a i)) ≡ sum_over m (λ i. sum_below n (λ a. g a i))
unfolding sum_over
below-swap n zero g = below-zero n
below-swap n (suc m) g =
    below-plus n (λ a. g a (suc m)) (λ a. sum_over m (λ i. g a i))
    ∙ ap (λ x. sum_below n (λ a. g a (suc m)) + x) (below-swap n m g)

-- and of two over numbers and one over slots
pub below-swap2 : (n m : ℕ) (f : ℕ → ℕ → ℕ) (g : ℕ → ℕ → ℕ → ℕ)
    → ((a b : ℕ) → f a b ≡ sum_over m (λ i. g a b i))
    → sum_below n (λ a. sum_below n (λ b. f a b)) ≡ sum_over m (λ i. sum_below n (λ a. sum_below n (λ b. g a b i)))
below-swap2 n m f g h =
    below-same n (λ a. sum_below n (λ b. f a b)) (λ a. sum_over m (λ i. sum_below n (λ b. g a b i)))
    (λ a. below-same n (f a) (λ b. sum_over m (λ i. g a b i)) (h a) ∙ below-swap n m (g a))
    ∙ below-swap n m (λ a i. sum_below n (λ b. g a b i))

-- ---- one number, one pair of numbers

below_none : (n x : ℕ) → n ≤ x → sum_below n (λ a. one (eqb a x)) ≡ 0
unfolding sum_below one
below_none zero x h = refl
below_none (suc n) x h = rw (ne_eqb n x (omega arith)) (omega (arith, below_none n x (omega arith)))

below_one : (n x : ℕ) → x < n → sum_below n (λ a. one (eqb a x)) ≡ 1
unfolding sum_below one
below_one zero x h = absurd (omega arith)
below_one (suc n) x h = by-eq n x
    (λ e. rw (eq-eqb n x e) (omega (arith, below_none n x (omega arith))))
    (λ ne. rw (ne_eqb n x ne) (omega (arith, below_one n x (omega arith))))

below-one-if : (n y : ℕ) (c : Bool) → y < n → sum_below n (λ b. one (c && eqb b y)) ≡ one c
unfolding one
below-one-if n y true h = below_one n y h
below-one-if n y false h = below-zero n

-- where c holds, the pair x, y is one of the pairs
pub below-pair : (n x y : ℕ) (c : Bool) → (c ≡ true → (x < n) × (y < n))
    → sum_below n (λ a. sum_below n (λ b. one (c && (eqb a x && eqb b y)))) ≡ one c
unfolding one
below-pair n x y true h =
    below-same n (λ a. sum_below n (λ b. one (eqb a x && eqb b y))) (λ a. one (eqb a x))
    (λ a. below-one-if n y (eqb a x) (h refl).1)
    ∙ below_one n x (h refl).0
below-pair n x y false h = below-same n (λ a. sum_below n (λ b. 0)) (λ a. 0) (λ a. below-zero n) ∙ below-zero n
