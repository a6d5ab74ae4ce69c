-- The trees of a well-formed store: the path from a capability to its master, and what lies on it.
use Prim.Native.Nat.{ℕ}
use mathlib.Core.Path.{◌≡◌, refl, sym, ap, ◌∙◌, subst}
use mathlib.Core.Logic.{◌≢◌, inl, inr, ⊎_elim}
use mathlib.Core.Bool.{true}
use mathlib.Core.List.{List, ◌∷◌}
use native.Mathlib.Omega.{arith}
use lib.Bits.{bit_and, and_self}
use Rattle.rules.specs.Slots.{last_of}
use Rattle.rules.specs.Store.{Cap, State, path, root_of, descends}
use Rattle.rules.specs.Valid.{Lives, ChildIn, Climbs, top, step, Caps}
use Rattle.rules.proofs.Tests.{by-eq}
use Rattle.rules.proofs.Bitwise.{and_assoc}
use Rattle.rules.proofs.Climbs.{OneOf, mem-one, one-mem, climbs-same, climbs-none, climbs-all, climb-top}
use Rattle.rules.proofs.Climbs.{climb-few, last_one, last-top}

-- ---- a child in its parent, and so on up

child-self : (x : Cap) → ChildIn x x
child-self x = record {
  object = refl;
  rights = and_self x.rights;
  window = record { start = omega arith; end = omega arith };
  last_day = omega arith;
}

child-trans : {x y z : Cap} → ChildIn x y → ChildIn y z → ChildIn x z
child-trans {x} {y} {z} a b = record {
  object = a.object ∙ b.object;
  rights =
      ap (λ w. bit_and w z.rights) (sym a.rights)
      ∙ and_assoc x.rights y.rights z.rights
      ∙ ap (λ w. bit_and x.rights w) b.rights
      ∙ a.rights;
  window = record {
    start = omega (arith, a.window.start, b.window.start);
    end = omega (arith, a.window.end, b.window.end);
  };
  last_day = omega (arith, a.last_day, b.last_day);
}

module _ (s : State) (C : Caps s.object s.cap) where
  abbrev Up : ℕ → List ℕ → Type 0
  Up = Climbs (λ j. (s.cap j).parent)

  pub not-zero : (i : ℕ) → Lives s.cap i → i ≢ 0
  not-zero i h = let w = (C.live i h).some in omega arith

  -- ---- the path

  climbs-path : (i : ℕ) → Lives s.cap i → Up i (path s i)
  unfolding path
  climbs-path i h =
      let e = C.ends i h in
      let q = climb-few 512 e.1 (λ k o.
      let w = C.live k (climbs-all (Lives s.cap) C.parent (λ n. h) e.1 k o) in (w.some, w.low)) in
      subst (λ (l : List ℕ). Up i l) (sym q) e.1

  pub path-climbs : (i : ℕ) → (i ≢ 0 → Lives s.cap i) → Up i (path s i)
  unfolding path
  path-climbs i h = by-eq i 0
      (λ e. subst (λ x. Up x (path s x)) (sym e) (subst (Up 0) (sym (climb-top (λ j. (s.cap j).parent) 512)) top))
      (λ n. climbs-path i (h n))

  pub path-lives : (i k : ℕ) → Lives s.cap i → OneOf k (path s i) → Lives s.cap k
  path-lives i k h o = climbs-all (Lives s.cap) C.parent (λ n. h) (climbs-path i h) k o

  path-cons : (i : ℕ) → Lives s.cap i → path s i ≡ i ∷ path s (s.cap i).parent
  path-cons i h =
      climbs-same (climbs-path i h) (step (not-zero i h) (path-climbs (s.cap i).parent (C.parent i h)))

  -- ---- descends: i is k or one of its descendants

  pub descends-one : (i k : ℕ) → descends s i k ≡ true → OneOf k (path s i)
  unfolding descends
  descends-one i k h = mem-one k (path s i) h

  one-descends : (i k : ℕ) → OneOf k (path s i) → descends s i k ≡ true
  unfolding descends
  one-descends i k h = one-mem k (path s i) h

  pub descends-self : (i : ℕ) → Lives s.cap i → descends s i i ≡ true
  descends-self i h = one-descends i i (subst (OneOf i) (sym (path-cons i h)) (inl refl))

  pub descends-lives : (i k : ℕ) → Lives s.cap i → descends s i k ≡ true → Lives s.cap k
  descends-lives i k h e = path-lives i k h (descends-one i k e)

  -- a child descends from what its parent descends from
  pub descends-child : (i k : ℕ) → Lives s.cap i → descends s (s.cap i).parent k ≡ true → descends s i k ≡ true
  descends-child i k h e = one-descends i k (subst (OneOf k) (sym (path-cons i h)) (inr (descends-one _ k e)))

  -- a master descends from itself alone
  pub descends-top : (i k : ℕ) → Lives s.cap i → (s.cap i).parent ≡ 0 → descends s i k ≡ true → k ≡ i
  descends-top i k h z e = ⊎_elim
      (λ (q : k ≡ i). q)
      (λ (o : OneOf k (path s (s.cap i).parent)).
      absurd (climbs-none (path-climbs (s.cap i).parent (C.parent i h)) k o z))
      (subst (OneOf k) (path-cons i h) (descends-one i k e))

  -- a descendant lies in each that it descends from
  in-climb : {i : ℕ} {xs : List ℕ} → Lives s.cap i → Up i xs → (k : ℕ) → OneOf k xs → ChildIn (s.cap i) (s.cap k)
  in-climb h top k o = absurd o
  in-climb h (step {i = i} n u) k (inl e) =
      subst (λ (x : ℕ). ChildIn (s.cap i) (s.cap x)) (sym e) (child-self (s.cap i))
  in-climb h (step {i = i} n u) k (inr o) =
      let ne = climbs-none u k o in
      child-trans (C.within i h ne) (in-climb (C.parent i h ne) u k o)

  pub descends-in : (i k : ℕ) → Lives s.cap i → descends s i k ≡ true → ChildIn (s.cap i) (s.cap k)
  descends-in i k h e = in-climb h (climbs-path i h) k (descends-one i k e)

  -- ---- the master that the path ends at

  pub master-same : (i k : ℕ) → Lives s.cap i → descends s i k ≡ true → root_of s k ≡ root_of s i
  unfolding root_of
  master-same i k h e =
      last_one (climbs-path i h) (descends-one i k e) (climbs-path k (descends-lives i k h e))

  pub master-above : (i : ℕ) → Lives s.cap i → descends s i (root_of s i) ≡ true
  unfolding root_of
  master-above i h = one-descends i (last_of (path s i) 0) (last-top (climbs-path i h) (not-zero i h)).0

  pub master-top : (i : ℕ) → Lives s.cap i → (s.cap (root_of s i)).parent ≡ 0
  unfolding root_of
  master-top i h = (last-top (climbs-path i h) (not-zero i h)).1

  pub master-lives : (i : ℕ) → Lives s.cap i → Lives s.cap (root_of s i)
  master-lives i h = descends-lives i (root_of s i) h (master-above i h)

  pub master-in : (i : ℕ) → Lives s.cap i → ChildIn (s.cap i) (s.cap (root_of s i))
  master-in i h = descends-in i (root_of s i) h (master-above i h)

  -- it is the only one without a parent that i descends from
  pub master-only : (i k : ℕ) → Lives s.cap i → descends s i k ≡ true → (s.cap k).parent ≡ 0 → k ≡ root_of s i
  master-only i k h e z =
      let g = descends-lives i k h e in
      sym (descends-top k (root_of s k) g z (master-above k g)) ∙ master-same i k h e

  -- and the only master of i's object
  pub master-unique : (i k : ℕ) → Lives s.cap i → Lives s.cap k → (s.cap k).parent ≡ 0
      → (s.cap i).object ≡ (s.cap k).object → root_of s i ≡ k
  master-unique i k h g z e = C.masters (root_of s i) k (master-lives i h) g
      (sym (master-in i h).object ∙ e) (master-top i h) z
