-- The laws of marking: a part that is made of two is there if the first is and then the second is. All checks of chains
-- and trees go by them.
use mathlib.Core.Path.{◌≡◌, refl, ◌∙◌}
use mathlib.Core.Bool.{Bool, true, false, false≢true}
use mathlib.Core.List.{List, [], ◌∷◌}
use Prim.Native.Nat.{ℕ, zero, suc, ◌+◌, ◌≤◌, ◌<◌}
use native.Mathlib.Omega.{arith}
use native.Mathlib.Decide.{ℕ_discrete}
use lib.Dec.{eqb}
use lib.ListN.{length, get_or, set, length-set}
use lib.Seq.{get_or-set_same, get_or-set_other}
use Rattle.rules.specs.Slots.{one}
use Rattle.layout.proofs.Counts.{one_same, one-other}
use Rattle.check_chains.specs.Marking.{VisitMarks, Blank, Part, Marking}

-- what fits as P is what fits as A together with what fits as B
pub record Made (P A B : Part) : Type 0 where
  pub join : (a : A.Thing) (b : B.Thing) → A.Fits a → B.Fits b
      → (x : P.Thing) × P.Fits x × ((k : ℕ) → P.holds x k ≡ A.holds a k + B.holds b k)
  pub split : (x : P.Thing) → P.Fits x
      → (a : A.Thing) × (b : B.Thing) × A.Fits a × B.Fits b
      × ((k : ℕ) → P.holds x k ≡ A.holds a k + B.holds b k)

module _ {P A B : Part} (made : Made P A B) {s v u : List ℕ} where
  pub marking-then : {r : Bool} → Marking A s v true → Marking B v u r → Marking P s u r
  marking-then g h = record {
    sound = λ e.
        let a = g.sound refl in
        let b = h.sound e in
        let x = made.join a.0 b.0 a.1 b.1 in
        (x.0, x.1, (λ k. omega (arith, x.2 k, a.3 k, b.2 k)), (λ k. omega (arith, x.2 k, a.3 k, b.3 k)));
    complete = λ x fits once.
        let t = made.split x fits in
        let a = g.complete t.0 t.2 (λ k. omega (arith, t.4 k, once k)) in
        let b = h.complete t.1 t.3 (λ k. omega (arith, t.4 k, once k, a.1 k)) in
        (b.0, λ k. omega (arith, t.4 k, a.1 k, b.1 k));
  }

  pub marking-broken : Marking A s v false → Marking P s u false
  marking-broken g = record {
    sound = λ e. absurd (false≢true e);
    complete = λ x fits once.
        let t = made.split x fits in
        absurd (false≢true (g.complete t.0 t.2 (λ k. omega (arith, t.4 k, once k))).0);
  }

-- a part that holds no record: there or not, nothing is marked
pub marking-nothing : {P : Part} {s : List ℕ} {n : ℕ} (r : Bool) → VisitMarks n s → (r ≡ true → (x : P.Thing) × P.Fits x)
    → ((x : P.Thing) → P.Fits x → (r ≡ true) × ((k : ℕ) → P.holds x k ≡ 0)) → Marking P s s r
marking-nothing r m some all = record {
  sound = λ e. let x = some e in
      let z = all x.0 x.1 in
      (x.0, x.1, (λ k. omega (arith, z.1 k, m.mark k)), (λ k. omega (arith, z.1 k)));
  complete = λ x fits once. let z = all x fits in (z.0, λ k. omega (arith, z.1 k));
}

-- the same of another view of what fits
pub marking-as : {X : Type 0} {F G : X → Type 0} {c : X → ℕ → ℕ} {s u : List ℕ} {r : Bool}
    → ((x : X) → F x → G x) → ((x : X) → G x → F x)
    → Marking (record { Thing = X; Fits = F; holds = c }) s u r
    → Marking (record { Thing = X; Fits = G; holds = c }) s u r
marking-as to from h = record {
  sound = λ e. let t = h.sound e in (t.0, to t.0 t.1, t.2, t.3);
  complete = λ x fits once. h.complete x (from x fits) once;
}

-- ---- one record

-- record j alone, where A says that it may stand there
abbrev pub single : Type 0 → ℕ → Part
single A j = record { Thing = Unit {0}; Fits = λ _. A; holds = λ _ k. one (eqb k j) }

pub marking-refused : {A : Type 0} (j : ℕ) {s u : List ℕ} → (A → get_or s j 0 ≡ 0 → ⊥) → Marking (single A j) s u false
marking-refused j f = record {
  sound = λ e. absurd (false≢true e);
  complete = λ x a once. absurd (f a (omega (arith, once j, one_same j)));
}

pub marking-one : {A : Type 0} {n j : ℕ} {s : List ℕ} → VisitMarks n s → j ≤ n → get_or s j 0 ≡ 0 → A
    → Marking (single A j) s (set s j 1) true
marking-one {A} {n} {j} {s} m high z a = record {
  sound = λ _. (tt, a, (λ k. once k (ℕ_discrete k j)), (λ k. marked k (ℕ_discrete k j)));
  complete = λ x _ _. (refl, λ k. marked k (ℕ_discrete k j));
}
  where
    once : (k : ℕ) → Dec (k ≡ j) → get_or s k 0 + one (eqb k j) ≤ 1
    once k (yes e) = rw e (omega (arith, one_same j))
    once k (no ne) = omega (arith, one-other k j ne, m.mark k)

    marked : (k : ℕ) → Dec (k ≡ j) → get_or (set s j 1) k 0 ≡ get_or s k 0 + one (eqb k j)
    marked k (yes e) = rw e (omega (arith, get_or-set_same s j 1 0 (omega (arith, m.size)), one_same j))
    marked k (no ne) = omega (arith, get_or-set_other s j k 1 0 ne, one-other k j ne)

-- ---- marks after a part was found

pub marks-after : {P : Part} {n : ℕ} {s v : List ℕ} → VisitMarks n s → length v ≡ length s → Marking P s v true → VisitMarks n v
marks-after m e h = let t = h.sound refl in record { size = e ∙ m.size; mark = λ k. omega (arith, t.2 k, t.3 k) }

pub marks-blank : {n : ℕ} {s : List ℕ} → Blank n s → VisitMarks n s
marks-blank b = record { size = b.size; mark = λ k. omega (arith, b.clear k) }

-- 01, "the count of unvisited records"
blank : ℕ → ℕ
blank zero = 1
blank (suc n) = 0

pub unvisited : List ℕ → ℕ
unvisited [] = 0
unvisited (x ∷ s) = blank x + unvisited s

blank-le : (x y : ℕ) → x ≤ y → blank y ≤ blank x
unfolding blank
blank-le zero zero h = omega arith
blank-le zero (suc y) h = omega arith
blank-le (suc x) zero h = omega arith
blank-le (suc x) (suc y) h = omega arith

unvisited-le : (s v : List ℕ) → length v ≡ length s → ((k : ℕ) → get_or s k 0 ≤ get_or v k 0) → unvisited v ≤ unvisited s
unfolding unvisited
unvisited-le [] [] e h = omega arith
unvisited-le [] (y ∷ v) e h = omega arith
unvisited-le (x ∷ s) [] e h = omega arith
unvisited-le (x ∷ s) (y ∷ v) e h = omega (arith, blank-le x y (h 0), unvisited-le s v (omega arith) (λ k. h (suc k)))

-- it falls where marks only grow and j's is new
unvisited-lt : (s v : List ℕ) (j : ℕ) → length v ≡ length s → ((k : ℕ) → get_or s k 0 ≤ get_or v k 0) → j < length s
    → get_or s j 0 ≡ 0 → 1 ≤ get_or v j 0 → unvisited v < unvisited s
unfolding unvisited blank
unvisited-lt [] v j e h l z m = omega arith
unvisited-lt (x ∷ s) [] j e h l z m = omega arith
unvisited-lt (zero ∷ s) (suc y ∷ v) zero e h l z m = omega (arith, unvisited-le s v (omega arith) (λ k. h (suc k)))
unvisited-lt (zero ∷ s) (zero ∷ v) zero e h l z m = omega arith
unvisited-lt (suc x ∷ s) (y ∷ v) zero e h l z m = omega arith
unvisited-lt (x ∷ s) (y ∷ v) (suc j) e h l z m =
    omega (arith, blank-le x y (h 0), unvisited-lt s v j (omega arith) (λ k. h (suc k)) (omega arith) z m)

-- so it falls where a part was found that holds a record
pub marking-falls : {P : Part} {s v : List ℕ} (j : ℕ) → length v ≡ length s → j < length s → (h : Marking P s v true)
    → ((x : P.Thing) → P.Fits x → 1 ≤ P.holds x j) → unvisited v < unvisited s
marking-falls {s = s} {v = v} j e l h some =
    let t = h.sound refl in
    let m = some t.0 t.1 in
    unvisited-lt s v j e (λ k. omega (arith, t.3 k)) l (omega (arith, t.2 j)) (omega (arith, t.3 j))

-- record j is visited
pub visit-marks : {n j : ℕ} {s : List ℕ} → VisitMarks n s → j ≤ n → get_or s j 0 ≡ 0 → VisitMarks n (set s j 1)
visit-marks {j = j} {s = s} m high z = marks-after m (length-set s j 1) (marking-one m high z (tt {0}))

pub visit-falls : {n j : ℕ} {s : List ℕ} → VisitMarks n s → j ≤ n → get_or s j 0 ≡ 0 → unvisited (set s j 1) < unvisited s
visit-falls {n} {j} {s} m high z =
    marking-falls j (length-set s j 1) (omega (arith, m.size)) (marking-one m high z (tt {0}))
    (λ x _. omega (arith, one_same j))

-- ---- a loop that marks: whatever the rest P is found to be from here on, so is the whole Q from t on

pub record Going (n : ℕ) (P : Part) (s : List ℕ) (Q : Part) (t : List ℕ) : Type 0 where
  pub marks : VisitMarks n s
  pub leads : (u : List ℕ) (r : Bool) → Marking P s u r → Marking Q t u r

pub going_start : {n : ℕ} {P : Part} {s : List ℕ} → VisitMarks n s → Going n P s P s
going_start m = record { marks = m; leads = λ u r h. h }

module _ {n : ℕ} {P Q A B : Part} {s t : List ℕ} (now : Going n P s Q t) (made : Made P A B) where
  pub going_on : {v : List ℕ} → length v ≡ length s → Marking A s v true → Going n B v Q t
  going_on {v} e g = record {
    marks = marks-after now.marks e g;
    leads = λ u r h. now.leads u r (marking-then made g h);
  }

  pub going-broken : {v u : List ℕ} → Marking A s v false → Marking Q t u false
  going-broken {v} {u} g = now.leads u false (marking-broken made g)
