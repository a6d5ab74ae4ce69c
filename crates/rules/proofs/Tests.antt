-- Tests as equations: booleans, and the tests that a name or a password is the same.
use Prim.Native.Nat.{ℕ}
use mathlib.Core.Path.{◌≡◌, refl, sym, ap, ap₂}
use mathlib.Core.Logic.{◌≢◌}
use mathlib.Core.Bool.{Bool, true, false, not, ◌&&◌, ◌||◌, true≢false, false≢true}
use native.Mathlib.Decide.{ℕ_discrete}
use lib.Dec.{eqb}
use borrow.Author.Tests.{eqb-true, eqb-false, eq-eqb, ne_eqb}
use Rattle.rules.specs.Store.{Name, same_name, Password, same_password, State, cap_lives}
use Rattle.rules.specs.Valid.{Lives}

-- by the two values of a test
pub by_bool {ℓ} : {A : Type ℓ} (b : Bool) → (b ≡ true → A) → (b ≡ false → A) → A
by_bool true f g = f refl
by_bool false f g = g refl

-- by whether two numbers are equal
pub by-eq {ℓ} : {A : Type ℓ} (a b : ℕ) → (a ≡ b → A) → (a ≢ b → A) → A
by-eq {A = A} a b f g = go (ℕ_discrete a b)
  where
    go : Dec (a ≡ b) → A
    go (yes e) = f e
    go (no n) = g n

-- two tests that imply each other are equal
pub bool_same : (a b : Bool) → (a ≡ true → b ≡ true) → (b ≡ true → a ≡ true) → a ≡ b
bool_same true b f g = sym (f refl)
bool_same false true f g = g refl
bool_same false false f g = refl

-- a test that cannot pass
pub refuted : (b : Bool) → (b ≡ true → ⊥) → b ≡ false
refuted true h = absurd (h refl)
refuted false h = refl

-- ---- and, or, not. The parts are written out where these are cited: `_` is not found under them.

pub both_true : (a b : Bool) → a ≡ true → b ≡ true → (a && b) ≡ true
both_true true b h g = g
both_true false b h g = h

pub all2 : (a b : Bool) → (a && b) ≡ true → (a ≡ true) × (b ≡ true)
all2 true b h = (refl, h)
all2 false b h = absurd (false≢true h)

pub all3 : (a b c : Bool) → (a && b && c) ≡ true → (a ≡ true) × (b ≡ true) × (c ≡ true)
all3 a b c h = let g = all2 (a && b) c h in let f = all2 a b g.0 in (f.0, f.1, g.1)

pub none2 : (a b : Bool) → (a || b) ≡ false → (a ≡ false) × (b ≡ false)
none2 true b h = absurd (true≢false h)
none2 false b h = (refl, h)

pub not-is-true : (a : Bool) → not a ≡ true → a ≡ false
not-is-true true h = absurd (false≢true h)
not-is-true false h = refl

pub not-is-false : (a : Bool) → not a ≡ false → a ≡ true
not-is-false true h = refl
not-is-false false h = absurd (true≢false h)

-- ---- a case of a test

pub pick_yes : {A : Type 0} (b : Bool) (x y : A) → b ≡ true → ◌≡◌ {A = A} (elim b [ true ↦ x | false ↦ y ]) x
pick_yes true x y e = refl
pick_yes false x y e = absurd (false≢true e)

pub pick-not : {A : Type 0} (b : Bool) (x y : A) → b ≡ false → ◌≡◌ {A = A} (elim b [ true ↦ x | false ↦ y ]) y
pick-not true x y e = absurd (true≢false e)
pick-not false x y e = refl

-- what holds of each holds of the one picked
pub pick-by : {A : Type 0} (P : A → Type 0) (b : Bool) (x y : A) → (b ≡ true → P x) → (b ≡ false → P y)
    → P (elim b [ true ↦ x | false ↦ y ])
pick-by P true x y f g = f refl
pick-by P false x y f g = g refl

-- ---- names and passwords

pub same-name : (a b : Name) → same_name a b ≡ true → a ≡ b
unfolding same_name
same-name a b e =
    let f = all2 (eqb a.volume b.volume) (eqb a.serial b.serial) e in
    ap₂ (λ v n. record { volume = v; serial = n }) (eqb-true _ _ f.0) (eqb-true _ _ f.1)

pub name-same : (a b : Name) → a ≡ b → same_name a b ≡ true
unfolding same_name
name-same a b e =
    both_true (eqb a.volume b.volume) (eqb a.serial b.serial)
    (eq-eqb _ _ (ap (λ (n : Name). n.volume) e)) (eq-eqb _ _ (ap (λ (n : Name). n.serial) e))

pub same-password : (a b : Password) → same_password a b ≡ true → a ≡ b
unfolding same_password
same-password a b e =
    let f = all2 (eqb a.p1 b.p1) (eqb a.p2 b.p2) e in
    ap₂ (λ x y. record { p1 = x; p2 = y }) (eqb-true _ _ f.0) (eqb-true _ _ f.1)

pub password-same : (a b : Password) → a ≡ b → same_password a b ≡ true
unfolding same_password
password-same a b e =
    both_true (eqb a.p1 b.p1) (eqb a.p2 b.p2)
    (eq-eqb _ _ (ap (λ (p : Password). p.p1) e)) (eq-eqb _ _ (ap (λ (p : Password). p.p2) e))

-- ---- what lives

pub lives : (s : State) (i : ℕ) → cap_lives s i ≡ true → Lives s.cap i
unfolding cap_lives
lives s i e = eqb-false _ _ (not-is-true (eqb (s.cap i).object 0) e)

pub does-live : (s : State) (i : ℕ) → Lives s.cap i → cap_lives s i ≡ true
unfolding cap_lives
does-live s i h = ap not (ne_eqb (s.cap i).object 0 h)

pub not-lives : (s : State) (i : ℕ) → cap_lives s i ≡ false → (s.cap i).object ≡ 0
unfolding cap_lives
not-lives s i e = eqb-true _ _ (not-is-false (eqb (s.cap i).object 0) e)
