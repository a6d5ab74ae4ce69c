-- Two carried states: the slots that live, what is found by name and password, the climb, and how many live.
use Prim.Native.Nat.{ℕ, ◌-◌}
use mathlib.Core.Path.{◌≡◌, refl, sym, ap, ◌∙◌, subst}
use mathlib.Core.Logic.{◌≢◌}
use mathlib.Core.Bool.{Bool, true, ◌&&◌, true≢false}
use mathlib.Core.List.{map}
use lib.Dec.{eqb}
use borrow.Author.Tests.{eqb-true}
use Rattle.rules.specs.Limit as Limit
use Rattle.rules.specs.Slots.{find, one, count_over, mem}
use Rattle.rules.specs.Store.{Name, same_name, Password, same_password, Object, Cap, State, no_object, no_cap}
use Rattle.rules.specs.Store.{cap_lives, object_named, path, descends, blocks, objects_live, caps_live, free_blocks}
use Rattle.rules.specs.Valid.{Lives, Objects, Caps, Formed}
use Rattle.rules.specs.Call.{Capability}
use Rattle.rules.specs.Password.{unlock, presented}
use Rattle.rules.proofs.Tests.{by-eq, refuted, bool_same, all2, all3, same-name, same-password, lives}
use Rattle.rules.proofs.Tests.{does-live}
use Rattle.rules.proofs.Slots.{find-finds}
use Rattle.rules.proofs.Climbs.{OneOf, mem-one, one-mem, one_map, map-one, climbs-same, climbs-map}
use Rattle.rules.proofs.Forest.{not-zero, path-climbs, path-lives}
use Rattle.rules.proofs.Sound.{object-some}
use Rattle.rules.proofs.Carried.{Maps, Alive, carried, Moves, CarriedBy}
use Rattle.rules.specs.Meaning.{cap_named}
use Rattle.rules.proofs.Onto.{Onto, find-onto, sum-onto, count-onto}

-- ---- slot 0 holds nothing

pub none-object : (s : State) → Objects s.object → s.object 0 ≡ no_object
none-object s O = O.free 0 (refuted (s.object 0).live (λ e. object-some O 0 e refl))

pub none-cap : (s : State) → Caps s.object s.cap → s.cap 0 ≡ no_cap
none-cap s C = C.free 0 (by-eq (s.cap 0).object 0 (λ z. z)
    (λ n. absurd (not-zero s C 0 n refl)))

-- ---- what is found lives

pub named_live : (s : State) (n : Name) → object_named s n ≢ 0 → Alive s.object (object_named s n)
unfolding object_named
named_live s n h =
    let t : ℕ → Bool = λ o. (s.object o).live && same_name (s.object o).name n in
    (all2 (s.object (find Limit.objects t)).live (same_name (s.object (find Limit.objects t)).name n) (find-finds Limit.objects t h).0).0

pub cap-live : (s : State) (n : Name) (p1 : ℕ) → cap_named s n p1 ≢ 0 → Lives s.cap (cap_named s n p1)
unfolding cap_named
cap-live s n p1 h =
    let a : ℕ → Bool = λ i. same_name (s.object (s.cap i).object).name n in
    let b : ℕ → Bool = λ i. eqb (s.cap i).password.p1 p1 in
    let t : ℕ → Bool = λ i. cap_lives s i && a i && b i in
    let k : ℕ = find Limit.caps t in
    lives s k (all3 (cap_lives s k) (a k) (b k) (find-finds Limit.caps t h).0).0

-- two living capabilities of objects of one name, with one p1, are one
pub one-cap : (s : State) → Formed s → (i j : ℕ) → Lives s.cap i → Lives s.cap j
    → (s.object (s.cap i).object).name ≡ (s.object (s.cap j).object).name
    → (s.cap i).password.p1 ≡ (s.cap j).password.p1 → i ≡ j
one-cap s G i j a b n p = G.caps.passwords i j a b
    (G.objects.names (s.cap i).object (s.cap j).object (G.caps.live i a).owned (G.caps.live j b).owned n) p

module _ {m : Maps} (s t : State) (S : Formed s) (T : Formed t) (A : CarriedBy m s t) where
  abbrev M : Moves m s.object t.object s.cap t.cap
  M = A.moves

  abbrev f : ℕ → ℕ
  f = m.object

  abbrev u : ℕ → ℕ
  u = m.cap

  -- ---- objects

  pub f-lives : (o : ℕ) → Alive s.object o → Alive t.object (f o)
  f-lives o h = ap (λ (x : Object). x.live) (M.object o h) ∙ h

  pub f-some : (o : ℕ) → Alive s.object o → f o ≢ 0
  f-some o h = object-some T.objects (f o) (f-lives o h)

  pub f-once : (o q : ℕ) → Alive s.object o → Alive s.object q → f o ≡ f q → o ≡ q
  f-once o q a b e = S.objects.names o q a b
      (ap (λ (x : Object). x.name) (sym (M.object o a) ∙ ap t.object e ∙ M.object q b))

  pub objects-onto : Onto Limit.objects (λ o. (s.object o).live) (λ o. (t.object o).live) f m.object-back
  objects-onto = record {
    in_p = λ o h. let w = S.objects.live o h in (w.some, w.low);
    in-q = λ o h. let w = T.objects.live o h in (w.some, w.low);
    goes = f-lives;
    back = M.object-back;
    once = f-once;
  }

  -- ---- capabilities

  pub owned : (i : ℕ) → Lives s.cap i → Alive s.object (s.cap i).object
  owned i h = (S.caps.live i h).owned

  pub u-lives : (i : ℕ) → Lives s.cap i → Lives t.cap (u i)
  u-lives i h z = f-some (s.cap i).object (owned i h) (sym (ap (λ (x : Cap). x.object) (M.cap i h)) ∙ z)

  pub u-some : (i : ℕ) → Lives s.cap i → u i ≢ 0
  u-some i h = not-zero t T.caps (u i) (u-lives i h)

  pub u-once : (i j : ℕ) → Lives s.cap i → Lives s.cap j → u i ≡ u j → i ≡ j
  u-once i j a b e =
      let q = sym (M.cap i a) ∙ ap t.cap e ∙ M.cap j b in
      S.caps.passwords i j a b
      (f-once (s.cap i).object (s.cap j).object (owned i a) (owned j b) (ap (λ (x : Cap). x.object) q))
      (ap (λ (x : Cap). x.password.p1) q)

  pub caps-onto : Onto Limit.caps (cap_lives s) (cap_lives t) u m.cap-back
  caps-onto = record {
    in_p = λ i h. let w = S.caps.live i (lives s i h) in (w.some, w.low);
    in-q = λ i h. let w = T.caps.live i (lives t i h) in (w.some, w.low);
    goes = λ i h. does-live t (u i) (u-lives i (lives s i h));
    back = λ j h. let b = M.cap-back j (lives t j h) in (does-live s (m.cap-back j) b.0, b.1);
    once = λ i j a b. u-once i j (lives s i a) (lives s j b);
  }

  pub u-parent : (i : ℕ) → Lives s.cap i → (t.cap (u i)).parent ≡ u (s.cap i).parent
  u-parent i h = ap (λ (x : Cap). x.parent) (M.cap i h)

  owner-name : (i : ℕ) → Lives s.cap i
      → (t.object (t.cap (u i)).object).name ≡ (s.object (s.cap i).object).name
  owner-name i h = ap (λ (x : Cap). (t.object x.object).name) (M.cap i h)
      ∙ ap (λ (x : Object). x.name) (M.object (s.cap i).object (owned i h))

  -- ---- what is found

  pub named-carried : (n : Name) → object_named t n ≡ f (object_named s n)
  unfolding object_named
  named-carried n =
      let x : ℕ → Bool = λ o. (s.object o).live && same_name (s.object o).name n in
      let y : ℕ → Bool = λ o. (t.object o).live && same_name (t.object o).name n in
      let y-are : (o : ℕ) → y o ≡ true → ((t.object o).live ≡ true) × ((t.object o).name ≡ n) = λ o e.
      let d = all2 (t.object o).live (same_name (t.object o).name n) e in
      (d.0, same-name (t.object o).name n d.1) in
      find-onto objects-onto x y
      (λ o e. (all2 (s.object o).live (same_name (s.object o).name n) e).0)
      (λ o e. (y-are o e).0)
      (λ o h. ap (λ (z : Object). z.live && same_name z.name n) (M.object o h))
      M.no-object
      (λ o q a b. T.objects.names o q (y-are o a).0 (y-are q b).0 ((y-are o a).1 ∙ sym (y-are q b).1))

  -- ---- a test of a capability, v on s and w on t, besides its object's name

  module _ (n : Name) (v w : Cap → Bool) (same : (x : Cap) → w (carried m x) ≡ v x) where
    abbrev x-test : ℕ → Bool
    x-test i = cap_lives s i && same_name (s.object (s.cap i).object).name n && v (s.cap i)

    abbrev y-test : ℕ → Bool
    y-test i = cap_lives t i && same_name (t.object (t.cap i).object).name n && w (t.cap i)

    x-in : (i : ℕ) → x-test i ≡ true → cap_lives s i ≡ true
    x-in i e = (all3 (cap_lives s i) (same_name (s.object (s.cap i).object).name n) (v (s.cap i)) e).0

    y-is : (i : ℕ) → y-test i ≡ true
        → (cap_lives t i ≡ true) × ((t.object (t.cap i).object).name ≡ n) × (w (t.cap i) ≡ true)
    y-is i e =
        let o : Name = (t.object (t.cap i).object).name in
        let d = all3 (cap_lives t i) (same_name o n) (w (t.cap i)) e in
        (d.0, same-name o n d.1, d.2)

    tested : (i : ℕ) → cap_lives s i ≡ true → y-test (u i) ≡ x-test i
    tested i e =
        let h = lives s i e in
        let a : cap_lives t (u i) ≡ cap_lives s i = does-live t (u i) (u-lives i h) ∙ sym e in
        let b = owner-name i h in
        let d = ap w (M.cap i h) ∙ same (s.cap i) in
        λ z. a z && same_name (b z) n && d z

    -- how many pass
    pub test-count : count_over Limit.caps y-test ≡ count_over Limit.caps x-test
    unfolding count_over one
    test-count = sum-onto caps-onto (λ i. one (x-test i)) (λ i. one (y-test i))
        (λ i e. ap one (refuted (x-test i) (λ d. true≢false (sym (x-in i d) ∙ e))))
        (λ i e. ap one (refuted (y-test i) (λ d. true≢false (sym (y-is i d).0 ∙ e))))
        (λ i e. ap one (tested i e))

    -- the one that passes, where those that do have one p1
    pub test-find : ((x y : Cap) → w x ≡ true → w y ≡ true → x.password.p1 ≡ y.password.p1)
        → find Limit.caps y-test ≡ u (find Limit.caps x-test)
    test-find only = find-onto caps-onto x-test y-test x-in (λ i e. (y-is i e).0) tested M.no-cap
        (λ i j a b.
        let d = y-is i a in
        let e = y-is j b in
        one-cap t T i j (lives t i d.0) (lives t j e.0) (d.1 ∙ sym e.1) (only _ _ d.2 e.2))

  pub presented-carried : (me q : ℕ) → Alive s.object me → q ≡ f me → (x : Capability)
      → presented t q x ≡ u (presented s me x)
  unfolding presented
  presented-carried me q live e x =
      let p : Password = unlock x.password (s.lock me) in
      let p' : Password = unlock x.password (t.lock q) in
      test-find x.name (λ y. same_password y.password p) (λ y. same_password y.password p')
      (λ y. ap (λ z. same_password y.password (unlock x.password z)) (ap t.lock e ∙ A.lock me live))
      (λ y z a b. ap (λ (w : Password). w.p1)
      (same-password y.password p' a ∙ sym (same-password z.password p' b)))

  pub cap-carried : (n : Name) (p1 : ℕ) → cap_named t n p1 ≡ u (cap_named s n p1)
  unfolding cap_named
  cap-carried n p1 = test-find n (λ y. eqb y.password.p1 p1) (λ y. eqb y.password.p1 p1) (λ y. refl)
      (λ y z a b. eqb-true y.password.p1 p1 a ∙ sym (eqb-true z.password.p1 p1 b))

  -- ---- the climb

  pub path-carried : (i : ℕ) → Lives s.cap i → path t (u i) ≡ map u (path s i)
  path-carried i h = climbs-same (path-climbs t T.caps (u i) (λ n. u-lives i h))
      (climbs-map (Lives s.cap) u M.no-cap (λ x g. (u-parent x g, u-some x g, S.caps.parent x g)) (λ n. h)
      (path-climbs s S.caps i (λ n. h)))

  pub descends-carried : (i k : ℕ) → Lives s.cap i → Lives s.cap k → descends t (u i) (u k) ≡ descends s i k
  unfolding descends
  descends-carried i k a b =
      let e = path-carried i a in
      bool_same (mem (u k) (path t (u i))) (mem k (path s i))
      (λ q. one-mem k (path s i) (map-one u k (path s i)
      (λ x m r. u-once x k (path-lives s S.caps i x a m) b r) (subst (OneOf (u k)) e (mem-one (u k) _ q))))
      (λ q. one-mem (u k) (path t (u i))
      (subst (OneOf (u k)) (sym e) (one_map u k (path s i) (mem-one k (path s i) q))))

  -- ---- how many live, and the free blocks

  pub objects-carried : objects_live t ≡ objects_live s
  unfolding objects_live
  objects-carried = count-onto objects-onto

  pub caps-carried : caps_live t ≡ caps_live s
  unfolding caps_live
  caps-carried = count-onto caps-onto

  pub blocks-carried : free_blocks t ≡ free_blocks s
  unfolding free_blocks blocks no_object
  blocks-carried = ap (λ n. Limit.blocks - n) (sum-onto objects-onto
      (λ o. blocks (s.object o).size) (λ o. blocks (t.object o).size)
      (λ o e. ap (λ (x : Object). blocks x.size) (S.objects.free o e))
      (λ o e. ap (λ (x : Object). blocks x.size) (T.objects.free o e))
      (λ o h. ap (λ (x : Object). blocks x.size) (M.object o h)))
