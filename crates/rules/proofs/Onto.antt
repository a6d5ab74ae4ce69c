-- Slots of one state taken to slots of another, one to one: what is found, counted and summed over them is the same.
use Prim.Native.Nat.{ℕ, ◌≤◌}
use mathlib.Core.Path.{◌≡◌, refl, sym, ap, ◌∙◌}
use mathlib.Core.Logic.{◌≢◌, inl, inr}
use mathlib.Core.Bool.{Bool, true, false, not, ◌&&◌, true≢false}
use mathlib.Core.List.{List, [], ◌∷◌, map}
use native.Mathlib.Omega.{arith}
use lib.Dec.{eqb}
use borrow.Author.Tests.{eq-eqb, ne_eqb}
use Rattle.rules.specs.Slots.{at, find, some, sum_over, one, count_over, any}
use Rattle.rules.proofs.Tests.{by-eq, by_bool, both_true, pick_yes, pick-not}
use Rattle.rules.proofs.Slots.{find-finds, find-some, at_here, at-else, sum_same, sum-zero, sum-swap, sum-but}
use Rattle.rules.proofs.Climbs.{OneOf}
use Rattle.rules.proofs.Carried.{Along}

-- ---- sums

-- a sum of one term
sum-only : (n : ℕ) (g : ℕ → ℕ) (i : ℕ) → 1 ≤ i → i ≤ n → ((j : ℕ) → j ≢ i → g j ≡ 0) → sum_over n g ≡ g i
sum-only n g i a b h =
    omega (arith, sum-but n (λ j. 0) g i a b (λ j ne. h j ne), sum-zero n (λ j. 0) (λ j p q. refl))

-- ---- one to one

-- the slots of 1 to n that pass p, taken by f to those that pass q, and back by f'
pub record Onto (n : ℕ) (p q : ℕ → Bool) (f f' : ℕ → ℕ) : Type 0 where
  pub in_p : (i : ℕ) → p i ≡ true → (1 ≤ i) × (i ≤ n)
  pub in-q : (j : ℕ) → q j ≡ true → (1 ≤ j) × (j ≤ n)
  pub goes : (i : ℕ) → p i ≡ true → q (f i) ≡ true
  pub back : (j : ℕ) → q j ≡ true → (p (f' j) ≡ true) × (f (f' j) ≡ j)
  pub once : (i j : ℕ) → p i ≡ true → p j ≡ true → f i ≡ f j → i ≡ j

module _ {n : ℕ} {p q : ℕ → Bool} {f f' : ℕ → ℕ} (K : Onto n p q f f') where
  -- ---- what is found

  module _ (x y : ℕ → Bool) (x-in : (i : ℕ) → x i ≡ true → p i ≡ true) (y-in : (j : ℕ) → y j ≡ true → q j ≡ true)
      (same : (i : ℕ) → p i ≡ true → y (f i) ≡ x i) where
    -- where one test finds nothing, so does the other
    found-there : find n x ≢ 0 → find n y ≢ 0
    found-there h =
        let e = (find-finds n x h).0 in
        let a = x-in (find n x) e in
        let b = K.in-q (f (find n x)) (K.goes (find n x) a) in
        find-some n y (f (find n x)) b.0 b.1 (same (find n x) a ∙ e)

    found_here : find n y ≢ 0 → find n x ≢ 0
    found_here h =
        let e = (find-finds n y h).0 in
        let a = K.back (find n y) (y-in (find n y) e) in
        let b = K.in_p (f' (find n y)) a.0 in
        find-some n x (f' (find n y)) b.0 b.1 (sym (same (f' (find n y)) a.0) ∙ ap y a.1 ∙ e)

    pub some-onto : some n y ≡ some n x
    unfolding some
    some-onto = ap not (by-eq (find n x) 0
        (λ z. by-eq (find n y) 0
        (λ w. eq-eqb (find n y) 0 w ∙ sym (eq-eqb (find n x) 0 z))
        (λ w. absurd (found_here w z)))
        (λ z. ne_eqb (find n y) 0 (found-there z) ∙ sym (ne_eqb (find n x) 0 z)))

    -- where at most one passes
    pub find-onto : f 0 ≡ 0 → ((i j : ℕ) → y i ≡ true → y j ≡ true → i ≡ j) → find n y ≡ f (find n x)
    find-onto e only = by-eq (find n x) 0
        (λ z. by-eq (find n y) 0
        (λ w. w ∙ sym e ∙ ap f (sym z))
        (λ w. absurd (found_here w z)))
        (λ z.
        let h = (find-finds n x z).0 in
        only (find n y) (f (find n x)) (find-finds n y (found-there z)).0
        (same (find n x) (x-in (find n x) h) ∙ h))

  -- ---- what is summed

  module _ (a b : ℕ → ℕ) (a-none : (i : ℕ) → p i ≡ false → a i ≡ 0) (b-none : (j : ℕ) → q j ≡ false → b j ≡ 0)
      (same : (i : ℕ) → p i ≡ true → b (f i) ≡ a i) where
    -- what slot i gives to slot j
    term : ℕ → ℕ → ℕ
    term i j = elim (p i && eqb j (f i)) [ true ↦ a i | false ↦ 0 ]

    term-yes : (i j : ℕ) → p i ≡ true → j ≡ f i → term i j ≡ a i
    unfolding term
    term-yes i j h e = pick_yes (p i && eqb j (f i)) (a i) 0
        (both_true (p i) (eqb j (f i)) h (eq-eqb j (f i) e))

    term-not : (i j : ℕ) → (p i ≡ true → j ≢ f i) → term i j ≡ 0
    unfolding term
    term-not i j h = pick-not (p i && eqb j (f i)) (a i) 0 (by_bool (p i)
        (λ e. ap (λ x. x && eqb j (f i)) e ∙ ne_eqb j (f i) (h e))
        (λ e. ap (λ x. x && eqb j (f i)) e))

    row : (i : ℕ) → a i ≡ sum_over n (λ j. term i j)
    row i = by_bool (p i)
        (λ h.
        let w = K.in-q (f i) (K.goes i h) in
        sym (sum-only n (λ j. term i j) (f i) w.0 w.1 (λ j ne. term-not i j (λ _. ne))
        ∙ term-yes i (f i) h refl))
        (λ h. a-none i h
        ∙ sym (sum-zero n (λ j. term i j) (λ j _ _. term-not i j (λ y. absurd (true≢false (sym y ∙ h))))))

    column : (j : ℕ) → sum_over n (λ i. term i j) ≡ b j
    column j = by_bool (q j)
        (λ h.
        let k = K.back j h in
        let w = K.in_p (f' j) k.0 in
        sum-only n (λ i. term i j) (f' j) w.0 w.1
        (λ i ne. term-not i j (λ y e. ne (K.once i (f' j) y k.0 (sym e ∙ sym k.1))))
        ∙ term-yes (f' j) j k.0 (sym k.1)
        ∙ sym (same (f' j) k.0) ∙ ap b k.1)
        (λ h. sum-zero n (λ i. term i j) (λ i _ _. term-not i j (λ y e.
        true≢false (sym (K.goes i y) ∙ ap q (sym e) ∙ h)))
        ∙ sym (b-none j h))

    pub sum-onto : sum_over n b ≡ sum_over n a
    sum-onto = sym (sum_same n a (λ i. sum_over n (λ j. term i j)) (λ i _ _. row i)
        ∙ sum-swap n n term
        ∙ sum_same n (λ j. sum_over n (λ i. term i j)) b (λ j _ _. column j))

  -- how many pass
  pub count-onto : count_over n q ≡ count_over n p
  unfolding count_over one
  count-onto = sum-onto (λ i. one (p i)) (λ j. one (q j)) (λ i e. ap one e) (λ j e. ap one e)
      (λ i e. ap one (K.goes i e ∙ sym e))

-- ---- one slot changed, and a list of slots

pub at-along : {A : Type 0} {P : ℕ → Type 0} {f : ℕ → ℕ} (x y : ℕ → A) → Along P f x y
    → ((i j : ℕ) → P i → P j → f i ≡ f j → i ≡ j)
    → (o q : ℕ) → P o → q ≡ f o → (v w : A) → w ≡ v → Along P f (at x o v) (at y q w)
at-along {f = f} x y h once o q live e v w same i g = by-eq i o
    (λ d. ap (at y q w) (ap f d ∙ sym e) ∙ at_here y q w ∙ same ∙ sym (ap (at x o v) d ∙ at_here x o v))
    (λ n. at-else y q w (f i) (λ d. n (once i o g live (d ∙ e))) ∙ h i g ∙ sym (at-else x o v i n))

pub any-map : (g : ℕ → ℕ) (x y : ℕ → Bool) (l : List ℕ) → ((i : ℕ) → OneOf i l → y (g i) ≡ x i)
    → any y (map g l) ≡ any x l
unfolding any
any-map g x y [] h = refl
any-map g x y (i ∷ l) h =
    let e = h i (inl refl) in
    let r = any-map g x y l (λ j o. h j (inr o)) in
    λ d. elim (e d) [ true ↦ true | false ↦ r d ]
