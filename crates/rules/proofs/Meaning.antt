-- Two carried states mean the same.
use Prim.Native.Nat.{ℕ}
use mathlib.Core.Path.{◌≡◌, refl, sym, ap, ◌∙◌}
use mathlib.Core.Logic.{◌≢◌}
use mathlib.Core.Bool.{true, false, not}
use mathlib.Core.List.{List, [], ◌∷◌}
use native.Mathlib.Omega.{arith}
use lib.Dec.{eqb}
use lib.ListN.{length}
use borrow.Author.Tests.{eq-eqb, ne_eqb}
use Rattle.rules.specs.Store.{Name, Object, Cap, State, no_object, no_cap, no_password, no_window, cap_lives, object_named}
use Rattle.rules.specs.Store.{sums_in, all_cash, all_masters, all_boxes}
use Rattle.rules.specs.Valid.{Lives, Formed}
use Rattle.rules.proofs.Tests.{by-eq, by_bool, pick_yes, pick-not, lives, not-lives}
use Rattle.rules.proofs.Carried.{Maps, Alive, Along, carried, CarriedBy}
use Rattle.rules.specs.Meaning.{object_at, object_seen, cap_at, cap_named, cap_seen, SameMeaning}
use Rattle.rules.proofs.Onto.{sum-onto}
use Rattle.rules.proofs.Moving.{none-object, none-cap, named_live, cap-live}
use Rattle.rules.proofs.Moving.{f-some, u-some, objects-onto, caps-onto, named-carried, cap-carried}

empty : (l : List ℕ) → length l ≡ 0 → l ≡ []
empty [] e = refl
empty (x ∷ l) e = absurd (omega arith)

-- no slot is taken to no slot, and a slot to a slot
pub zero_same : (f : ℕ → ℕ) → f 0 ≡ 0 → (i : ℕ) → (i ≢ 0 → f i ≢ 0) → eqb (f i) 0 ≡ eqb i 0
zero_same f z i h = by-eq i 0
    (λ e. eq-eqb (f i) 0 (ap f e ∙ z) ∙ sym (eq-eqb i 0 e))
    (λ n. ne_eqb (f i) 0 (h n) ∙ sym (ne_eqb i 0 n))

module _ {m : Maps} (s t : State) (S : Formed s) (T : Formed t) (A : CarriedBy m s t) where
  abbrev f : ℕ → ℕ
  f = m.object

  abbrev u : ℕ → ℕ
  u = m.cap

  -- ---- an object found by its name, or none

  pub named-along : {B : Type 0} (x y : ℕ → B) → Along (Alive s.object) f x y → y 0 ≡ x 0
      → (n : Name) → y (object_named t n) ≡ x (object_named s n)
  named-along x y h z n = ap y (named-carried s t S T A n) ∙ by-eq (object_named s n) 0
      (λ e. ap (λ o. y (f o)) e ∙ ap y A.moves.no-object ∙ z ∙ ap x (sym e))
      (λ d. h (object_named s n) (named_live s n d))

  pub object-zero : t.object 0 ≡ s.object 0
  object-zero = none-object t T.objects ∙ sym (none-object s S.objects)

  -- a slot with no object is no process's
  idle : (r : State) → Formed r → (o : ℕ) → (r.object o).live ≡ false → (r.object o).process ≡ false
  unfolding no_object
  idle r R o e = ap (λ (x : Object). x.process) (R.objects.free o e)

  -- the slot that is none has none
  none-live : (r : State) → Formed r → (r.object 0).live ≡ false
  unfolding no_object
  none-live r R = ap (λ (x : Object). x.live) (none-object r R.objects)

  none-idle : (r : State) → Formed r → (r.object 0).process ≡ false
  none-idle r R = idle r R 0 (none-live r R)

  blank : (r : State) → Formed r → r.bytes 0 ≡ []
  unfolding no_object
  blank r R = empty (r.bytes 0) (R.bytes 0 ∙ ap (λ (x : Object). x.size) (none-object r R.objects))

  pub cash-zero : t.cash 0 ≡ s.cash 0
  cash-zero = T.no-cash 0 (none-idle t T) ∙ sym (S.no-cash 0 (none-idle s S))

  pub marks-zero : t.marks 0 ≡ s.marks 0
  marks-zero = T.no-marks 0 (none-idle t T) ∙ sym (S.no-marks 0 (none-idle s S))

  object-same : (n : Name) → object_seen t n ≡ object_seen s n
  unfolding object_seen object_at
  object-same n =
      let x = named-along s.object t.object A.moves.object object-zero n in
      let b = named-along s.bytes t.bytes A.bytes (blank t T ∙ sym (blank s S)) n in
      let k = named-along s.marks t.marks A.marks marks-zero n in
      let c = named-along s.cash t.cash A.cash cash-zero n in
      let l = named-along s.lock t.lock A.lock
      (T.no-lock 0 (none-idle t T) ∙ sym (S.no-lock 0 (none-idle s S))) n in
      let y = named-along s.box t.box A.box
      (T.no-box 0 (none-idle t T) ∙ sym (S.no-box 0 (none-idle s S))) n in
      λ d. record {
        live = (x d).live;
        size = (x d).size;
        process = (x d).process;
        bytes = b d;
        marks = k d;
        cash = c d;
        lock = l d;
        box = y d;
      }

  -- ---- a capability, or none

  none-carried : no_cap ≡ carried m no_cap
  unfolding no_cap
  none-carried = λ d. record {
    object = sym A.moves.no-object d;
    parent = sym A.moves.no-cap d;
    password = no_password;
    window = no_window;
    rights = 0;
    last_day = 0;
  }

  module _ (i : ℕ) (h : i ≢ 0 → Lives s.cap i) where
    cap-any : t.cap (u i) ≡ carried m (s.cap i)
    cap-any = by-eq i 0
        (λ e. ap (λ j. t.cap (u j)) e ∙ ap t.cap A.moves.no-cap ∙ none-cap t T.caps ∙ none-carried
        ∙ ap (carried m) (sym (ap s.cap e ∙ none-cap s S.caps)))
        (λ n. A.moves.cap i (h n))

    money-any : t.money (u i) ≡ s.money i
    unfolding no_cap
    money-any = by-eq i 0
        (λ e. ap (λ j. t.money (u j)) e ∙ ap t.money A.moves.no-cap
        ∙ T.no-money 0 (ap (λ (x : Cap). x.object) (none-cap t T.caps))
        ∙ sym (ap s.money e ∙ S.no-money 0 (ap (λ (x : Cap). x.object) (none-cap s S.caps))))
        (λ n. A.money i (h n))

    -- its object and its parent are none or live
    object-any : (s.cap i).object ≢ 0 → f (s.cap i).object ≢ 0
    object-any n = f-some s t S T A (s.cap i).object (S.caps.live i n).owned

    parent-any : (s.cap i).parent ≢ 0 → Lives s.cap (s.cap i).parent
    unfolding no_cap
    parent-any n = by-eq (s.cap i).object 0
        (λ e. absurd (n (ap (λ (x : Cap). x.parent) (S.caps.free i e))))
        (λ g. S.caps.parent i g n)

  pub master-same : (i : ℕ) → (i ≢ 0 → Lives s.cap i) → eqb (t.cap (u i)).parent 0 ≡ eqb (s.cap i).parent 0
  master-same i h = ap (λ (x : Cap). eqb x.parent 0) (cap-any i h)
      ∙ zero_same u A.moves.no-cap (s.cap i).parent (λ n. u-some s t S T A _ (parent-any i h n))

  cap-at : (i : ℕ) → (i ≢ 0 → Lives s.cap i) → cap_at t (u i) ≡ cap_at s i
  unfolding cap_at cap_lives
  cap-at i h =
      let x = cap-any i h in
      let a = ap (λ (y : Cap). eqb y.object 0) x
      ∙ zero_same f A.moves.no-object (s.cap i).object (object-any i h) in
      let w = money-any i h in
      let b = master-same i h in
      let p = ap (λ (y : Cap). (t.cap y.parent).password.p1) x
      ∙ ap (λ (y : Cap). y.password.p1) (cap-any (s.cap i).parent (parent-any i h)) in
      λ d. record {
        live = not (a d);
        password = (x d).password;
        window = (x d).window;
        rights = (x d).rights;
        last_day = (x d).last_day;
        moneyword = w d;
        master = b d;
        parent = p d;
      }

  cap-same : (n : Name) (p1 : ℕ) → cap_seen t n p1 ≡ cap_seen s n p1
  unfolding cap_seen
  cap-same n p1 = ap (cap_at t) (cap-carried s t S T A n p1) ∙ cap-at (cap_named s n p1) (cap-live s n p1)

  pub same-meaning : SameMeaning s t
  same-meaning = record { house = A.house; day = A.day; objects = object-same; caps = cap-same }

  -- ---- and have the same money

  pub cash-carried : all_cash t ≡ all_cash s
  unfolding all_cash
  cash-carried = sum-onto (objects-onto s t S T A) s.cash t.cash
      (λ o e. S.no-cash o (idle s S o e)) (λ o e. T.no-cash o (idle t T o e)) A.cash

  pub boxes-carried : all_boxes t ≡ all_boxes s
  unfolding all_boxes sums_in
  boxes-carried = sum-onto (objects-onto s t S T A) (λ o. sums_in (s.box o)) (λ o. sums_in (t.box o))
      (λ o e. ap sums_in (S.no-box o (idle s S o e))) (λ o e. ap sums_in (T.no-box o (idle t T o e)))
      (λ o h. ap sums_in (A.box o h))

  -- the moneyword of a master
  top : State → ℕ → ℕ
  top r i = elim (eqb (r.cap i).parent 0) [ true ↦ r.money i | false ↦ 0 ]

  top-free : (r : State) → Formed r → (i : ℕ) → cap_lives r i ≡ false → top r i ≡ 0
  unfolding top
  top-free r R i e = by_bool (eqb (r.cap i).parent 0)
      (λ b. pick_yes (eqb (r.cap i).parent 0) (r.money i) 0 b ∙ R.no-money i (not-lives r i e))
      (λ b. pick-not (eqb (r.cap i).parent 0) (r.money i) 0 b)

  pub masters-carried : all_masters t ≡ all_masters s
  unfolding all_masters top
  masters-carried = sum-onto (caps-onto s t S T A) (top s) (top t) (top-free s S) (top-free t T) (λ i e.
      let h = lives s i e in
      let b = master-same i (λ n. h) in
      let w = A.money i h in
      λ d. elim (b d) [ true ↦ w d | false ↦ 0 ])
