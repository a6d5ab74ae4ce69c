-- Two well-formed states that mean the same are carried: what is seen by name and p1 is all that they hold, but slots.
use Prim.Native.Nat.{ℕ}
use mathlib.Core.Path.{◌≡◌, refl, sym, ap, ◌∙◌}
use mathlib.Core.Logic.{◌≢◌}
use mathlib.Core.Bool.{Bool, true, false, not, ◌&&◌}
use lib.Dec.{eqb}
use borrow.Author.Tests.{eqb-true, eqb-false, eq-eqb, ne_eqb}
use Rattle.rules.specs.Limit as Limit
use Rattle.rules.specs.Store.{Name, same_name, Object, Cap, State, no_object, no_cap, cap_lives, object_named}
use Rattle.rules.specs.Valid.{Lives, Formed}
use Rattle.rules.proofs.Tests.{by-eq, both_true, all3, name-same, same-name, lives, does-live, pick_yes}
use Rattle.rules.proofs.Tests.{pick-not}
use Rattle.rules.proofs.Slots.{find-finds, find-some}
use Rattle.rules.proofs.Forest.{not-zero}
use Rattle.rules.proofs.Sound.{object-some}
use Rattle.rules.proofs.Presenting.{named, not_named}
use Rattle.rules.proofs.Carried.{Maps, Alive, carried, Moves, Carries}
use Rattle.rules.specs.Meaning.{ObjectSeen, object_at, object_seen, CapSeen, cap_at, cap_named, cap_seen, SameMeaning}
use Rattle.rules.proofs.Moving.{none-object, none-cap, named_live, one-cap}

-- ---- found by what is seen

module _ (s : State) (S : Formed s) where
  -- the object of a name
  named-is : (n : Name) (o : ℕ) → Alive s.object o → (s.object o).name ≡ n → object_named s n ≡ o
  named-is n o e q = by-eq (object_named s n) 0
      (λ z. absurd (not_named s n S.objects z o e q))
      (λ d. S.objects.names (object_named s n) o (named_live s n d) e (named s n d ∙ sym q))

  abbrev owner_name : ℕ → Name
  owner_name i = (s.object (s.cap i).object).name

  abbrev test : Name → ℕ → ℕ → Bool
  test n p i = cap_lives s i && same_name (owner_name i) n && eqb (s.cap i).password.p1 p

  -- the capability of a name and p1
  record Known (n : Name) (p i : ℕ) : Type 0 where
    alive : Lives s.cap i
    name : owner_name i ≡ n
    p1 : (s.cap i).password.p1 ≡ p

  known : (n : Name) (p i : ℕ) → test n p i ≡ true → Known n p i
  known n p i e =
      let d = all3 (cap_lives s i) (same_name (owner_name i) n) (eqb (s.cap i).password.p1 p) e in
      record { alive = lives s i d.0; name = same-name (owner_name i) n d.1; p1 = eqb-true _ _ d.2 }

  cap-known : (n : Name) (p : ℕ) → cap_named s n p ≢ 0 → Known n p (cap_named s n p)
  unfolding cap_named
  cap-known n p h = known n p _ (find-finds Limit.caps (test n p) h).0

  cap-is : (n : Name) (p i : ℕ) → Known n p i → cap_named s n p ≡ i
  unfolding cap_named
  cap-is n p i K =
      let w = S.caps.live i K.alive in
      let e = both_true (cap_lives s i && same_name (owner_name i) n) (eqb (s.cap i).password.p1 p)
      (both_true (cap_lives s i) (same_name (owner_name i) n) (does-live s i K.alive) (name-same _ _ K.name))
      (eq-eqb _ _ K.p1) in
      let L = known n p _ (find-finds Limit.caps (test n p) (find-some Limit.caps (test n p) i w.some w.low e)).0 in
      one-cap s S _ i L.alive K.alive (L.name ∙ sym K.name) (L.p1 ∙ sym K.p1)

  itself : (i : ℕ) → Lives s.cap i → Known (owner_name i) (s.cap i).password.p1 i
  itself i h = record { alive = h; name = refl; p1 = refl }

  -- a parent is known by its child's name
  parent-known : (i : ℕ) → Lives s.cap i → (s.cap i).parent ≢ 0
      → Known (owner_name i) (s.cap (s.cap i).parent).password.p1 (s.cap i).parent
  parent-known i h n = record {
    alive = S.caps.parent i h n;
    name = ap (λ o. (s.object o).name) (sym (S.caps.within i h n).object);
    p1 = refl;
  }

-- ---- the same object, and the same capability, in t

module _ (s t : State) (S : Formed s) (T : Formed t) (H : SameMeaning s t) where
  -- the slot there of the object at o
  object_there : ℕ → ℕ
  object_there o = object_named t (s.object o).name

  seen-object : (o : ℕ) → Alive s.object o → object_at t (object_there o) ≡ object_at s o
  unfolding object_seen object_there
  seen-object o h = H.objects (s.object o).name ∙ ap (object_at s) (named-is s S (s.object o).name o h refl)

  alive-there : (o : ℕ) → Alive s.object o → Alive t.object (object_there o)
  unfolding object_at
  alive-there o h = ap (λ (x : ObjectSeen). x.live) (seen-object o h) ∙ h

  name-there : (o : ℕ) → Alive s.object o → (t.object (object_there o)).name ≡ (s.object o).name
  unfolding object_there
  name-there o h = named t (s.object o).name (object-some T.objects _ (alive-there o h))

  object-there : (o : ℕ) → Alive s.object o → t.object (object_there o) ≡ s.object o
  unfolding object_at
  object-there o h =
      let x = seen-object o h in
      let n = name-there o h in
      λ d. record { live = (x d).live; name = n d; size = (x d).size; process = (x d).process }

  -- the slot there of the capability at i
  cap_there : ℕ → ℕ
  cap_there i = cap_named t (s.object (s.cap i).object).name (s.cap i).password.p1

  module _ (i : ℕ) (h : Lives s.cap i) where
    seen_cap : cap_at t (cap_there i) ≡ cap_at s i
    unfolding cap_seen cap_there
    seen_cap = H.caps (owner_name s S i) (s.cap i).password.p1
        ∙ ap (cap_at s) (cap-is s S (owner_name s S i) (s.cap i).password.p1 i (itself s S i h))

    lives-there : Lives t.cap (cap_there i)
    unfolding cap_at
    lives-there = lives t (cap_there i) (ap (λ (x : CapSeen). x.live) seen_cap ∙ does-live s i h)

    known-there : Known t T (s.object (s.cap i).object).name (s.cap i).password.p1 (cap_there i)
    unfolding cap_there
    known-there = cap-known t T _ _ (not-zero t T.caps (cap_there i) lives-there)

    owner-there : (t.cap (cap_there i)).object ≡ object_there (s.cap i).object
    unfolding object_there
    owner-there = sym (named-is t T (owner_name s S i) (t.cap (cap_there i)).object
        (T.caps.live (cap_there i) lives-there).owned known-there.name)

    top-there : (s.cap i).parent ≡ 0 → (t.cap (cap_there i)).parent ≡ 0
    unfolding cap_at
    top-there z = eqb-true _ _ (ap (λ (x : CapSeen). x.master) seen_cap ∙ eq-eqb (s.cap i).parent 0 z)

    parent-there : (s.cap i).parent ≢ 0 → (t.cap (cap_there i)).parent ≡ cap_there (s.cap i).parent
    unfolding cap_at cap_there
    parent-there n =
        let j : ℕ = cap_there i in
        let a : ℕ = (s.cap i).parent in
        let b : ℕ = (t.cap j).parent in
        let ne : b ≢ 0 = eqb-false _ _ (ap (λ (x : CapSeen). x.master) seen_cap ∙ ne_eqb a 0 n) in
        let K = parent-known t T j lives-there ne in
        sym (cap-is t T (owner_name s S a) (s.cap a).password.p1 b (record {
          alive = K.alive;
          name = K.name ∙ known-there.name ∙ sym (parent-known s S i h n).name;
          p1 = ap (λ (x : CapSeen). x.parent) seen_cap;
        }))

-- ---- one way and back

pub same_self : (s : State) → SameMeaning s s
same_self s = record { house = refl; day = refl; objects = λ n. refl; caps = λ n p. refl }

pub same-sym : (s t : State) → SameMeaning s t → SameMeaning t s
same-sym s t H = record {
  house = sym H.house;
  day = sym H.day;
  objects = λ n. sym (H.objects n);
  caps = λ n p. sym (H.caps n p);
}

-- what is back is where it was
module _ (s t : State) (S : Formed s) (T : Formed t) (H : SameMeaning s t) (K : SameMeaning t s) where
  object-round : (q : ℕ) → Alive t.object q → object_there s t S T H (object_there t s T S K q) ≡ q
  unfolding object_there
  object-round q h = ap (object_named t) (name-there t s T S K q h) ∙ named-is t T (t.object q).name q h refl

  cap-round : (j : ℕ) → Lives t.cap j → cap_there s t S T H (cap_there t s T S K j) ≡ j
  unfolding cap_there
  cap-round j h =
      let L = known-there t s T S K j h in
      let a = L.name in
      let b = L.p1 in
      (λ d. cap_named t (a d) (b d)) ∙ cap-is t T (owner_name t T j) (t.cap j).password.p1 j (itself t T j h)

module _ (s t : State) (S : Formed s) (T : Formed t) (H : SameMeaning s t) where
  abbrev K : SameMeaning t s
  K = same-sym s t H

  maps : Maps
  maps = record {
    object = λ o. elim (s.object o).live [ true ↦ object_there s t S T H o | false ↦ 0 ];
    cap = λ i. elim (cap_lives s i) [ true ↦ cap_there s t S T H i | false ↦ 0 ];
    object-back = λ q. object_there t s T S K q;
    cap-back = λ j. cap_there t s T S K j;
  }

  to-object : (o : ℕ) → Alive s.object o → maps.object o ≡ object_there s t S T H o
  unfolding maps
  to-object o h = pick_yes (s.object o).live (object_there s t S T H o) 0 h

  to-cap : (i : ℕ) → Lives s.cap i → maps.cap i ≡ cap_there s t S T H i
  unfolding maps
  to-cap i h = pick_yes (cap_lives s i) (cap_there s t S T H i) 0 (does-live s i h)

  no-object : maps.object 0 ≡ 0
  unfolding maps no_object
  no-object = pick-not (s.object 0).live (object_there s t S T H 0) 0
      (ap (λ (x : Object). x.live) (none-object s S.objects))

  no-cap : maps.cap 0 ≡ 0
  unfolding maps cap_lives no_cap
  no-cap = pick-not (cap_lives s 0) (cap_there s t S T H 0) 0
      (ap (λ (x : Cap). not (eqb x.object 0)) (none-cap s S.caps))

  cap-there : (i : ℕ) → Lives s.cap i → t.cap (maps.cap i) ≡ carried maps (s.cap i)
  unfolding cap_at
  cap-there i h =
      let e = to-cap i h in
      let x = ap (cap_at t) e ∙ seen_cap s t S T H i h in
      let a = ap (λ j. (t.cap j).object) e ∙ owner-there s t S T H i h
      ∙ sym (to-object (s.cap i).object (S.caps.live i h).owned) in
      let b : (t.cap (maps.cap i)).parent ≡ maps.cap (s.cap i).parent =
      ap (λ j. (t.cap j).parent) e ∙ by-eq (s.cap i).parent 0
      (λ z. top-there s t S T H i h z ∙ sym no-cap ∙ ap maps.cap (sym z))
      (λ n. parent-there s t S T H i h n ∙ sym (to-cap (s.cap i).parent (S.caps.parent i h n))) in
      λ d. record {
        object = a d;
        parent = b d;
        password = (x d).password;
        window = (x d).window;
        rights = (x d).rights;
        last_day = (x d).last_day;
      }

  moves : Moves maps s.object t.object s.cap t.cap
  unfolding maps
  moves = record {
    no-object = no-object;
    no-cap = no-cap;
    object = λ o h. ap t.object (to-object o h) ∙ object-there s t S T H o h;
    cap = cap-there;
    object-back = λ q h.
        let a = alive-there t s T S K q h in
        (a, to-object (object_there t s T S K q) a ∙ object-round s t S T H K q h);
    cap-back = λ j h.
        let a = lives-there t s T S K j h in
        (a, to-cap (cap_there t s T S K j) a ∙ cap-round s t S T H K j h);
  }

  -- what an object holds there
  seen : (o : ℕ) → Alive s.object o → object_at t (maps.object o) ≡ object_at s o
  seen o h = ap (object_at t) (to-object o h) ∙ seen-object s t S T H o h

  pub meant-carries : Carries s t
  unfolding object_at cap_at
  meant-carries = record {
    maps = maps;
    by = record {
      moves = moves;
      house = H.house;
      day = H.day;
      bytes = λ o h. ap (λ (x : ObjectSeen). x.bytes) (seen o h);
      lock = λ o h. ap (λ (x : ObjectSeen). x.lock) (seen o h);
      cash = λ o h. ap (λ (x : ObjectSeen). x.cash) (seen o h);
      marks = λ o h. ap (λ (x : ObjectSeen). x.marks) (seen o h);
      box = λ o h. ap (λ (x : ObjectSeen). x.box) (seen o h);
      money = λ i h. ap (λ (x : CapSeen). x.moneyword) (ap (cap_at t) (to-cap i h) ∙ seen_cap s t S T H i h);
    };
  }
