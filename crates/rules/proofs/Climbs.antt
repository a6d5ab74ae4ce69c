-- Climbs from a slot to the one above it, and so on: the list that `climb` gives, and what `mem` and `any` ask of it.
use Prim.Native.Nat.{ℕ, zero, suc, ◌≤◌, ◌<◌}
use mathlib.Core.Path.{◌≡◌, refl, sym, ap, ◌∙◌, subst}
use mathlib.Core.Logic.{◌≢◌, ◌⊎◌, inl, inr, ⊎_elim}
use mathlib.Core.Bool.{Bool, true, false, true≢false, false≢true}
use mathlib.Core.List.{List, [], ◌∷◌, map}
use native.Mathlib.Omega.{arith}
use lib.Dec.{eqb}
use lib.ListN.{length}
use borrow.Author.Tests.{eqb-true, eq-eqb, ne_eqb}
use Rattle.rules.specs.Slots.{any, mem, climb, last_of}
use Rattle.rules.specs.Valid.{Climbs, top, step}
use Rattle.rules.proofs.Tests.{by-eq}

-- ---- k is one of xs

abbrev pub OneOf : ℕ → List ℕ → Type 0
OneOf k [] = ⊥
OneOf k (x ∷ xs) = (k ≡ x) ⊎ OneOf k xs

mem-cons : (j x : ℕ) (xs : List ℕ) (b : Bool) → eqb x j ≡ b → (mem j xs ≡ true → OneOf j xs)
    → mem j (x ∷ xs) ≡ true → OneOf j (x ∷ xs)
unfolding mem any
mem-cons j x xs true e ih h = inl (sym (eqb-true x j e))
mem-cons j x xs false e ih h = inr (ih (rw (e, any) at h))

pub mem-one : (j : ℕ) (xs : List ℕ) → mem j xs ≡ true → OneOf j xs
unfolding mem any
mem-one j [] h = absurd (false≢true h)
mem-one j (x ∷ xs) h = mem-cons j x xs (eqb x j) refl (mem-one j xs) h

one-cons : (j x : ℕ) (xs : List ℕ) (b : Bool) → eqb x j ≡ b → mem j xs ≡ true → mem j (x ∷ xs) ≡ true
unfolding mem any
one-cons j x xs true e h = rw (e, any)
one-cons j x xs false e h = rw (e, any) h

pub one-mem : (j : ℕ) (xs : List ℕ) → OneOf j xs → mem j xs ≡ true
unfolding mem any
one-mem j [] h = absurd h
one-mem j (x ∷ xs) (inl e) = rw (eq-eqb x j (sym e), any)
one-mem j (x ∷ xs) (inr h) = one-cons j x xs (eqb x j) refl (one-mem j xs h)

any-cons : (t : ℕ → Bool) (x : ℕ) (xs : List ℕ) (b : Bool) → t x ≡ b → any t (x ∷ xs) ≡ false
    → (t x ≡ false) × (any t xs ≡ false)
unfolding any
any-cons t x xs true e h = absurd (true≢false (rw (e, any) at h))
any-cons t x xs false e h = (e, rw (e, any) at h)

-- where no slot of the list passes, each one fails
pub any_none : (t : ℕ → Bool) (xs : List ℕ) → any t xs ≡ false → (j : ℕ) → OneOf j xs → t j ≡ false
any_none t [] h j o = absurd o
any_none t (x ∷ xs) h j (inl e) = rw e (any-cons t x xs (t x) refl h).0
any_none t (x ∷ xs) h j (inr o) = any_none t xs (any-cons t x xs (t x) refl h).1 j o

-- and where each one fails, no slot passes
pub none_any : (t : ℕ → Bool) (xs : List ℕ) → ((j : ℕ) → OneOf j xs → t j ≡ false) → any t xs ≡ false
unfolding any
none_any t [] h = refl
none_any t (x ∷ xs) h = rw (h x (inl refl), any) (none_any t xs (λ j o. h j (inr o)))

-- lists under a map that does not join two
pub one_map : (g : ℕ → ℕ) (k : ℕ) (xs : List ℕ) → OneOf k xs → OneOf (g k) (map g xs)
one_map g k [] o = absurd o
one_map g k (x ∷ xs) (inl e) = inl (ap g e)
one_map g k (x ∷ xs) (inr o) = inr (one_map g k xs o)

pub map-one : (g : ℕ → ℕ) (k : ℕ) (xs : List ℕ) → ((x : ℕ) → OneOf x xs → g x ≡ g k → x ≡ k)
    → OneOf (g k) (map g xs) → OneOf k xs
map-one g k [] f o = absurd o
map-one g k (x ∷ xs) f (inl e) = inl (sym (f x (inl refl) (sym e)))
map-one g k (x ∷ xs) f (inr o) = inr (map-one g k xs (λ y m. f y (inr m)) o)

-- ---- the relation

-- a slot has one climb
pub climbs-same : {p : ℕ → ℕ} {i : ℕ} {xs ys : List ℕ} → Climbs p i xs → Climbs p i ys → xs ≡ ys
climbs-same top top = refl
climbs-same top (step n u) = absurd (n refl)
climbs-same (step n u) top = absurd (n refl)
climbs-same (step {i = i} n u) (step n' u') = ap (λ (l : List ℕ). i ∷ l) (climbs-same u u')

climbs-zero : {p : ℕ → ℕ} {xs : List ℕ} → Climbs p 0 xs → xs ≡ []
climbs-zero u = climbs-same u top

-- the climb from 0 is empty
pub climbs-none : {p : ℕ → ℕ} {i : ℕ} {xs : List ℕ} → Climbs p i xs → (k : ℕ) → OneOf k xs → i ≢ 0
climbs-none {p} {xs = xs} u k o z = subst (OneOf k) (climbs-zero (subst (λ x. Climbs p x xs) z u)) o

-- the climb is the same where what is above is
pub climbs-frame : {p q : ℕ → ℕ} {i : ℕ} {xs : List ℕ} (P : ℕ → Type 0)
    → ((j : ℕ) → P j → (q j ≡ p j) × (p j ≢ 0 → P (p j))) → (i ≢ 0 → P i) → Climbs p i xs → Climbs q i xs
climbs-frame P f h top = top
climbs-frame {q = q} P f h (step {i = i} {xs = xs} n u) =
    let a = f i (h n) in
    step n (subst (λ (x : ℕ). Climbs q x xs) (sym a.0) (climbs-frame P f a.1 u))

-- each of the climb has what passes upwards
pub climbs-all : {p : ℕ → ℕ} {i : ℕ} {xs : List ℕ} (P : ℕ → Type 0) → ((j : ℕ) → P j → p j ≢ 0 → P (p j))
    → (i ≢ 0 → P i) → Climbs p i xs → (k : ℕ) → OneOf k xs → P k
climbs-all P f h top k o = absurd o
climbs-all P f h (step {i = i} n u) k (inl e) = subst P (sym e) (h n)
climbs-all P f h (step {i = i} n u) k (inr o) = climbs-all P f (f i (h n)) u k o

-- the climb under a map that keeps what is above
pub climbs-map : {p q : ℕ → ℕ} {i : ℕ} {xs : List ℕ} (P : ℕ → Type 0) (g : ℕ → ℕ) → g 0 ≡ 0
    → ((j : ℕ) → P j → (q (g j) ≡ g (p j)) × (g j ≢ 0) × (p j ≢ 0 → P (p j)))
    → (i ≢ 0 → P i) → Climbs p i xs → Climbs q (g i) (map g xs)
climbs-map {q = q} P g z f h top = subst (λ (x : ℕ). Climbs q x []) (sym z) top
climbs-map {q = q} P g z f h (step {i = i} {xs = xs} n u) =
    let a = f i (h n) in
    step a.1 (subst (λ (x : ℕ). Climbs q x (map g xs)) (sym a.0) (climbs-map P g z f a.2 u))

-- the climb from one of a climb is a part of it
climbs-part : {p : ℕ → ℕ} {i k : ℕ} {xs : List ℕ} → Climbs p i xs → OneOf k xs
    → (ys : List ℕ) × Climbs p k ys × (length ys ≤ length xs)
climbs-part top m = absurd m
climbs-part {p} (step {i = i} {xs = xs} n u) (inl e) =
    (i ∷ xs, subst (λ (x : ℕ). Climbs p x (i ∷ xs)) (sym e) (step n u), omega arith)
climbs-part (step n u) (inr m) = let r = climbs-part u m in (r.0, r.1, omega (arith, r.2))

-- so a slot is not above itself
climbs-once : {p : ℕ → ℕ} {i : ℕ} {xs : List ℕ} → i ≢ 0 → Climbs p (p i) xs → OneOf i xs → ⊥
climbs-once n u m =
    let r = climbs-part u m in
    let e = ap length (climbs-same (step n u) r.1) in
    omega (arith, r.2, e)

-- ---- enough fuel: distinct slots of 1 to n are at most n

pub climb-top : (p : ℕ → ℕ) (n : ℕ) → climb n p 0 ≡ []
unfolding climb
climb-top p zero = refl
climb-top p (suc n) = refl

climb-fuel : {p : ℕ → ℕ} {i : ℕ} {xs : List ℕ} (n : ℕ) → Climbs p i xs → length xs ≤ n → climb n p i ≡ xs
unfolding climb
climb-fuel {p} n top h = climb-top p n
climb-fuel zero (step m u) h = absurd (omega arith)
climb-fuel (suc n) (step {i = i} m u) h =
    rw (ne_eqb i 0 m, climb) (ap (λ (l : List ℕ). i ∷ l) (climb-fuel n u (omega arith)))

abbrev Distinct : List ℕ → Type 0
Distinct [] = Unit {0}
Distinct (x ∷ xs) = (OneOf x xs → ⊥) × Distinct xs

-- xs without v
record Less (v : ℕ) (xs : List ℕ) : Type 0 where
  rest : List ℕ
  long : length xs ≤ suc (length rest)
  once : Distinct rest
  part : (k : ℕ) → OneOf k rest → OneOf k xs × (k ≢ v)

remove : (v : ℕ) (xs : List ℕ) → Distinct xs → Less v xs
remove v [] d = record { rest = []; long = omega arith; once = tt; part = λ k m. absurd m }
remove v (x ∷ xs) d =
    let r = remove v xs d.1 in
    by-eq x v
    (λ e. record {
      rest = xs;
      long = omega arith;
      once = d.1;
      part = λ k m. (inr m, λ q. d.0 (subst (λ (i : ℕ). OneOf i xs) (q ∙ sym e) m));
    })
    (λ n. record {
      rest = x ∷ r.rest;
      long = omega (arith, r.long);
      once = (λ m. d.0 (r.part x m).0, r.once);
      part = λ k. ⊎_elim
          (λ (e : k ≡ x). (inl e, λ q. n (sym e ∙ q)))
          (λ m. (inr (r.part k m).0, (r.part k m).1));
    })

few : (n : ℕ) (xs : List ℕ) → Distinct xs → ((k : ℕ) → OneOf k xs → (1 ≤ k) × (k ≤ n)) → length xs ≤ n
few zero [] d b = omega arith
few zero (x ∷ xs) d b = let h = b x (inl refl) in absurd (omega arith)
few (suc n) xs d b =
    let r = remove (suc n) xs d in
    let h = few n r.rest r.once
    (λ k m. let p = r.part k m in let q = b k p.0 in let ne = p.1 in (q.0, omega arith)) in
    omega (arith, r.long)

climbs-distinct : {p : ℕ → ℕ} {i : ℕ} {xs : List ℕ} → Climbs p i xs → Distinct xs
climbs-distinct top = tt
climbs-distinct (step n u) = (climbs-once n u, climbs-distinct u)

-- a climb among the slots 1 to n is the list that `climb n` gives
pub climb-few : {p : ℕ → ℕ} {i : ℕ} {xs : List ℕ} (n : ℕ) → Climbs p i xs
    → ((k : ℕ) → OneOf k xs → (1 ≤ k) × (k ≤ n)) → climb n p i ≡ xs
climb-few {xs = xs} n u b = climb-fuel n u (few n xs (climbs-distinct u) b)

-- ---- where each step goes down, a climb ends

pub climbs-down : (p : ℕ → ℕ) (c n i : ℕ) → ((j : ℕ) → 1 ≤ j → j ≤ c → p j < j) → i ≤ n → i ≤ c
    → (xs : List ℕ) × Climbs p i xs × ((k : ℕ) → OneOf k xs → (1 ≤ k) × (k ≤ i))
climbs-down p c zero i d h g = ([], subst (λ (x : ℕ). Climbs p x []) (omega arith) top, λ k o. absurd o)
climbs-down p c (suc n) i d h g = by-eq i 0
    (λ e. ([], subst (λ (x : ℕ). Climbs p x []) (sym e) top, λ k o. absurd o))
    (λ ne.
    let lt : p i < i = d i (omega arith) g in
    let r = climbs-down p c n (p i) d (omega arith) (omega arith) in (
      i ∷ r.0,
      step ne r.1,
      λ k. ⊎_elim
          (λ (e : k ≡ i). (omega arith, omega arith))
          (λ o. ((r.2 k o).0, omega (arith, (r.2 k o).1))),
    ))

-- ---- the last of a climb

last_cons : (i : ℕ) (xs : List ℕ) (j : ℕ) → OneOf j xs → last_of (i ∷ xs) 0 ≡ last_of xs 0
unfolding last_of
last_cons i [] j o = absurd o
last_cons i (x ∷ xs) j o = refl

-- one of a climb has its last
pub last_one : {p : ℕ → ℕ} {i j : ℕ} {xs ys : List ℕ} → Climbs p i xs → OneOf j xs → Climbs p j ys
    → last_of ys 0 ≡ last_of xs 0
last_one top o v = absurd o
last_one {p} {ys = ys} (step {i = i} {xs = xs} n u) (inl e) v =
    ap (λ l. last_of l 0) (climbs-same (subst (λ (x : ℕ). Climbs p x ys) e v) (step n u))
last_one {j = j} (step {i = i} {xs = xs} n u) (inr o) v = last_one u o v ∙ sym (last_cons i xs j o)

last-cases : {p : ℕ → ℕ} (i : ℕ) (xs : List ℕ) → Climbs p (p i) xs
    → (p i ≢ 0 → OneOf (last_of xs 0) xs × (p (last_of xs 0) ≡ 0))
    → OneOf (last_of (i ∷ xs) 0) (i ∷ xs) × (p (last_of (i ∷ xs) 0) ≡ 0)
unfolding last_of
last-cases {p} i xs u ih = by-eq (p i) 0
    (λ e.
    let z : xs ≡ [] = climbs-zero (subst (λ (x : ℕ). Climbs p x xs) e u) in
    subst (λ (l : List ℕ). OneOf (last_of (i ∷ l) 0) (i ∷ l) × (p (last_of (i ∷ l) 0) ≡ 0)) (sym z) (inl refl, e))
    (λ n.
    let r = ih n in
    let q = last_cons i xs (last_of xs 0) r.0 in
    subst (λ (x : ℕ). OneOf x (i ∷ xs) × (p x ≡ 0)) (sym q) (inr r.0, r.1))

-- the last is one of the climb, and 0 is above it
pub last-top : {p : ℕ → ℕ} {i : ℕ} {xs : List ℕ} → Climbs p i xs → i ≢ 0
    → OneOf (last_of xs 0) xs × (p (last_of xs 0) ≡ 0)
last-top top h = absurd (h refl)
last-top {p} (step {i = i} {xs = xs} n u) h = last-cases {p = p} i xs u (last-top u)
