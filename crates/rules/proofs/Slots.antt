-- Laws of the functions over slots: one slot changed, the slot that a test finds, sums, and a free slot.
use Prim.Native.Nat.{ℕ, zero, suc, ◌+◌, ◌≤◌, ◌<◌}
use mathlib.Core.Path.{◌≡◌, refl, sym, ap, ◌∙◌, subst}
use mathlib.Core.Logic.{◌≢◌}
use mathlib.Core.Bool.{Bool, true, false, not, ◌&&◌, false≢true}
use native.Mathlib.Omega.{arith}
use lib.Dec.{eqb}
use borrow.Author.Tests.{eqb-true, eqb-false, eq-eqb, ne_eqb}
use Rattle.rules.specs.Slots.{at, find, some, sum_over, one, count_over}
use Rattle.rules.proofs.Tests.{by_bool, by-eq, refuted, not-is-false, pick_yes, pick-not, pick-by}

-- ---- one slot changed

-- what holds of the new value at its slot, and of the old ones elsewhere, holds everywhere
pub at-by : {A : Type 0} (P : ℕ → A → Type 0) (f : ℕ → A) (i : ℕ) (v : A)
    → P i v → ((j : ℕ) → j ≢ i → P j (f j)) → (j : ℕ) → P j (at f i v j)
unfolding at
at-by P f i v p h j = pick-by (P j) (eqb j i) v (f j)
    (λ e. subst (λ x. P x v) (sym (eqb-true j i e)) p)
    (λ e. h j (eqb-false j i e))

pub at_here : {A : Type 0} (f : ℕ → A) (i : ℕ) (v : A) → at f i v i ≡ v
unfolding at
at_here f i v = pick_yes (eqb i i) v (f i) (eq-eqb i i refl)

pub at-else : {A : Type 0} (f : ℕ → A) (i : ℕ) (v : A) (j : ℕ) → j ≢ i → at f i v j ≡ f j
unfolding at
at-else f i v j h = pick-not (eqb j i) v (f j) (ne_eqb j i h)

-- what holds of all values and of the new one
pub at_all : {A : Type 0} (P : A → Type 0) (f : ℕ → A) (i : ℕ) (v : A)
    → ((j : ℕ) → P (f j)) → P v → (j : ℕ) → P (at f i v j)
at_all P f i v h p = at-by (λ j. P) f i v p (λ j n. h j)

-- two functions changed at one slot
pub at_both : {A B : Type 0} (P : ℕ → A → B → Type 0) (f : ℕ → A) (g : ℕ → B) (i : ℕ) (v : A) (w : B)
    → P i v w → ((j : ℕ) → j ≢ i → P j (f j) (g j)) → (j : ℕ) → P j (at f i v j) (at g i w j)
at_both P f g i v w p h j = by-eq j i
    (λ e. subst (λ x. P x (at f i v x) (at g i w x)) (sym e)
    (subst (λ y. P i y (at g i w i)) (sym (at_here f i v)) (subst (P i v) (sym (at_here g i w)) p)))
    (λ n. subst (λ y. P j y (at g i w j)) (sym (at-else f i v j n))
    (subst (P j (f j)) (sym (at-else g i w j n)) (h j n)))

-- ---- the slot that a test finds

find-hit : (n : ℕ) (t : ℕ → Bool) (b : Bool) → t (suc n) ≡ b → find (suc n) t ≢ 0
    → (find n t ≢ 0 → (t (find n t) ≡ true) × (find n t ≤ n))
    → (t (find (suc n) t) ≡ true) × (find (suc n) t ≤ suc n)
unfolding find
find-hit n t true e h ih = rw (e, find) (e, omega arith)
find-hit n t false e h ih =
    rw (e, find) (let p : (t (find n t) ≡ true) × (find n t ≤ n) = ih (rw (e, find) at h) in (p.0, omega arith))

-- it passes the test
pub find-finds : (n : ℕ) (t : ℕ → Bool) → find n t ≢ 0 → (t (find n t) ≡ true) × (find n t ≤ n)
unfolding find
find-finds zero t h = absurd (h refl)
find-finds (suc n) t h = find-hit n t (t (suc n)) refl h (find-finds n t)

find-step : (n : ℕ) (t : ℕ → Bool) (b : Bool) → t (suc n) ≡ b → (i : ℕ) → 1 ≤ i → i ≤ suc n → t i ≡ true
    → (i ≤ n → find n t ≢ 0) → find (suc n) t ≢ 0
unfolding find
find-step n t true e i a h q ih z = let w : suc n ≡ 0 = rw (e, find) at z in omega arith
find-step n t false e i a h q ih z =
    let ne : i ≢ suc n = λ f. false≢true (sym e ∙ ap t (sym f) ∙ q) in
    ih (omega arith) (rw (e, find) at z)

-- where a slot passes, one is found
pub find-some : (n : ℕ) (t : ℕ → Bool) (i : ℕ) → 1 ≤ i → i ≤ n → t i ≡ true → find n t ≢ 0
find-some zero t i a h q = absurd (omega arith)
find-some (suc n) t i a h q = find-step n t (t (suc n)) refl i a h q (λ g. find-some n t i a g q)

-- where none passes, each fails
pub some-none : (n : ℕ) (t : ℕ → Bool) → some n t ≡ false → (i : ℕ) → 1 ≤ i → i ≤ n → t i ≡ false
unfolding some
some-none n t e i a b =
    refuted (t i) (λ q. find-some n t i a b q (eqb-true _ _ (not-is-false (eqb (find n t) 0) e)))

-- ---- sums

pub sum_same : (n : ℕ) (f g : ℕ → ℕ) → ((i : ℕ) → 1 ≤ i → i ≤ n → f i ≡ g i) → sum_over n f ≡ sum_over n g
unfolding sum_over
sum_same zero f g h = refl
sum_same (suc n) f g h = rw (h (suc n) (omega arith) (omega arith), sum_same n f g (λ i a b. h i a (omega arith)))

pub sum-zero : (n : ℕ) (f : ℕ → ℕ) → ((i : ℕ) → 1 ≤ i → i ≤ n → f i ≡ 0) → sum_over n f ≡ 0
unfolding sum_over
sum-zero zero f h = refl
sum-zero (suc n) f h =
    omega (arith, h (suc n) (omega arith) (omega arith), sum-zero n f (λ i a b. h i a (omega arith)))

pub sum-add : (n : ℕ) (f g : ℕ → ℕ) → sum_over n (λ i. f i + g i) ≡ sum_over n f + sum_over n g
unfolding sum_over
sum-add zero f g = refl
sum-add (suc n) f g = omega (arith, sum-add n f g)

-- the order of two sums does not matter
pub sum-swap : (n m : ℕ) (f : ℕ → ℕ → ℕ)
    → sum_over n (λ i. sum_over m (λ j. f i j)) ≡ sum_over m (λ j. sum_over n (λ i. f i j))
unfolding sum_over
sum-swap zero m f = sym (sum-zero m (λ j. 0) (λ i a b. refl))
sum-swap (suc n) m f =
    omega (arith, sum-swap n m f, sum-add m (λ j. f (suc n) j) (λ j. sum_over n (λ i. f i j)))

-- g is f but at slot i: the sums differ by the two values there
pub sum-but : (n : ℕ) (f g : ℕ → ℕ) (i : ℕ) → 1 ≤ i → i ≤ n → ((j : ℕ) → j ≢ i → g j ≡ f j)
    → sum_over n g + f i ≡ sum_over n f + g i
unfolding sum_over
sum-but zero f g i a b h = absurd (omega arith)
sum-but (suc n) f g i a b h = by-eq i (suc n)
    (λ e. rw e (omega (arith, sum_same n g f (λ j c d. h j (λ q. omega arith)))))
    (λ ne. omega (arith, sum-but n f g i a (omega arith) h, h (suc n) (λ q. ne (sym q))))

-- one slot changed, seen through a measure
pub sum-at : {A : Type 0} (n : ℕ) (m : A → ℕ) (f : ℕ → A) (i : ℕ) (v : A) → 1 ≤ i → i ≤ n
    → sum_over n (λ j. m (at f i v j)) + m (f i) ≡ sum_over n (λ j. m (f j)) + m v
sum-at n m f i v a b =
    sum-but n (λ j. m (f j)) (λ j. m (at f i v j)) i a b (λ j h. ap m (at-else f i v j h))
    ∙ ap (λ x. sum_over n (λ j. m (f j)) + m x) (at_here f i v)

-- ---- where at most one slot passes a test, what is found counts as the sum over slots

find-top : (n : ℕ) (t : ℕ → Bool) → t (suc n) ≡ true → find (suc n) t ≡ suc n
unfolding find
find-top n t e = pick_yes (t (suc n)) (suc n) (find n t) e

find-below : (n : ℕ) (t : ℕ → Bool) → t (suc n) ≡ false → find (suc n) t ≡ find n t
unfolding find
find-below n t e = pick-not (t (suc n)) (suc n) (find n t) e

-- some slot, and it passes
abbrev past : (ℕ → Bool) → ℕ → Bool
past h k = not (eqb k 0) && h k

past-some : (h : ℕ → Bool) (k : ℕ) → past h (suc k) ≡ h (suc k)
past-some h k = ap (λ b. not b && h (suc k)) (ne_eqb (suc k) 0 (λ e. omega arith))

pub find-counts : (n : ℕ) (t h : ℕ → Bool) → ((i j : ℕ) → t i ≡ true → t j ≡ true → i ≡ j)
    → one (past h (find n t)) ≡ count_over n (λ i. t i && h i)
unfolding find one count_over sum_over
find-counts zero t h u = refl
find-counts (suc n) t h u = by_bool (t (suc n))
    (λ e.
    let alone : sum_over n (λ i. one (t i && h i)) ≡ 0 = sum-zero n (λ i. one (t i && h i)) (λ i a b.
    ap (λ x. one (x && h i)) (refuted (t i) (λ q. let d : i ≡ suc n = u i (suc n) q e in omega arith))) in
    let here : one (t (suc n) && h (suc n)) ≡ one (h (suc n)) = ap (λ x. one (x && h (suc n))) e in
    let top : one (past h (find (suc n) t)) ≡ one (h (suc n)) =
    ap (λ k. one (past h k)) (find-top n t e) ∙ ap one (past-some h n) in
    omega arith)
    (λ e.
    let here : one (t (suc n) && h (suc n)) ≡ 0 = ap (λ x. one (x && h (suc n))) e in
    let top : one (past h (find (suc n) t)) ≡ one (past h (find n t)) = ap (λ k. one (past h k)) (find-below n t e) in
    let below : one (past h (find n t)) ≡ sum_over n (λ i. one (t i && h i)) = find-counts n t h u in
    omega arith)

-- ---- a free slot: where not all of 1 to n pass, one does not

abbrev pub FreeSlot : ℕ → (ℕ → Bool) → Type 0
FreeSlot n t = (i : ℕ) × (1 ≤ i) × (i ≤ n) × (t i ≡ false)

free_step : (n : ℕ) (t : ℕ → Bool) (b : Bool) → t (suc n) ≡ b → count_over (suc n) t < suc n
    → (count_over n t < n → FreeSlot n t) → FreeSlot (suc n) t
unfolding count_over sum_over one
free_step n t true e h ih =
    let q : one (t (suc n)) ≡ 1 = ap one e in
    let r = ih (omega arith) in
    (r.0, r.1, omega (arith, r.2), r.3)
free_step n t false e h ih = (suc n, omega arith, omega arith, e)

pub free-slot : (n : ℕ) (t : ℕ → Bool) → count_over n t < n → FreeSlot n t
free-slot zero t h = absurd (omega arith)
free-slot (suc n) t h = free_step n t (t (suc n)) refl h (free-slot n t)
