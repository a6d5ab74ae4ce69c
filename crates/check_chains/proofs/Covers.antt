-- Each record once: a part was found from no marks on, and now all records are marked.
use mathlib.Core.Path.{◌≡◌, refl}
use mathlib.Core.Logic.{◌≢◌}
use mathlib.Core.Bool.{Bool, true, false, false≢true}
use mathlib.Core.List.{List, [], ◌∷◌}
use Prim.Native.Nat.{ℕ, ◌+◌, ◌≤◌}
use native.Mathlib.Omega.{arith}
use lib.ListN.{get_or, replicate, length-replicate}
use Rattle.layout.specs.Shape.{Chain, times}
use Rattle.layout.proofs.Field.{within}
use Rattle.layout.proofs.Zeros.{zeros}
use Rattle.rules.proofs.Slots.{sum-zero}
use Rattle.layout.proofs.Counts.{one-other}
use Rattle.layout.specs.Decides.{Decides}
use Rattle.check_chains.specs.Marking.{AtSlots, Blank, Full, Part, Once, Marking}
use Rattle.check_chains.specs.Parts.{chain_with, each}
use Rattle.check_chains.proofs.Marking.{Made, marking-then, marking-broken}

-- no record is visited at first
pub blank : (n : ℕ) → Blank n (replicate (n + 1) 0)
blank n = record { size = length-replicate (n + 1) 0; clear = zeros (n + 1) }

-- ---- a part holds the records 1 to n alone

abbrev pub Inside : ℕ → Part → Type 0
Inside n P = (x : P.Thing) → P.Fits x → (k : ℕ) → (1 ≤ k → k ≤ n → ⊥) → P.holds x k ≡ 0

pub chain-inside : (n : ℕ) (next : ℕ → ℕ) (head : ℕ) (xs : List ℕ) → Chain n next head xs
    → (k : ℕ) → (1 ≤ k → k ≤ n → ⊥) → times k xs ≡ 0
unfolding Chain times
chain-inside n next head [] c k out = refl
chain-inside n next head (j ∷ xs) c k out = omega (
  arith,
  one-other k j (λ e. out (omega (arith, c.1)) (omega (arith, c.2))),
  chain-inside n next (next j) xs c.3 k out,
)

pub in-with : (n : ℕ) (next : ℕ → ℕ) (P : List ℕ → Type 0) (head : ℕ) → Inside n (chain_with n next P head)
in-with n next P head xs h = chain-inside n next head xs h.0

pub each-inside : {X : Type 0} (Fits : ℕ → X → Type 0) (holds : X → ℕ → ℕ) (m n : ℕ)
    → ((o : ℕ) (x : X) → Fits o x → (k : ℕ) → (1 ≤ k → k ≤ n → ⊥) → holds x k ≡ 0) → Inside n (each Fits holds m)
each-inside Fits holds m n h T fits k out =
    sum-zero m (λ o. holds (T o) k) (λ o a b. h o (T o) (fits o a b) k out)

-- ---- two parts

abbrev pub both : Part → Part → Part
both A B = record {
  Thing = A.Thing × B.Thing;
  Fits = λ x. A.Fits x.0 × B.Fits x.1;
  holds = λ x k. A.holds x.0 k + B.holds x.1 k;
}

both-made : (A B : Part) → Made (both A B) A B
both-made A B = record {
  join = λ a b p q. ((a, b), (p, q), λ k. refl);
  split = λ x h. (x.0, x.1, h.0, h.1, λ k. refl);
}

-- each of the records 1 to n is in just one of the two, once
abbrev pub Covers : ℕ → Part → Part → Type 0
Covers n A B =
    (a : A.Thing) × (b : B.Thing) × A.Fits a × B.Fits b
    × AtSlots n (λ k. A.holds a k + B.holds b k ≡ 1)

module _ {n : ℕ} {A B : Part} (in-A : Inside n A) (in-B : Inside n B) {s : List ℕ} (blank : Blank n s) where
  once : (x : Covers n A B) → Once s ((both A B).holds (x.0, x.1))
  once x k = within n k (get_or s k 0 + (A.holds x.0 k + B.holds x.1 k) ≤ 1)
      (λ a b. omega (arith, x.4 k a b, blank.clear k))
      (λ out. omega (arith, in-A x.0 x.2 k out, in-B x.1 x.3 k out, blank.clear k))

  unmarked : {u : List ℕ} → Marking (both A B) s u false → Decides (Covers n A B) false
  unmarked h = record {
    sound = λ e. absurd (false≢true e);
    complete = λ x. (h.complete (x.0, x.1) (x.2, x.3) (once x)).0;
  }

  -- the first is not there, or the second is not, or all depends on whether all are marked
  pub covers-first : {v : List ℕ} → Marking A s v false → Decides (Covers n A B) false
  covers-first {v} g = unmarked (marking-broken (both-made A B) {u = v} g)

  pub covers-second : {v u : List ℕ} → Marking A s v true → Marking B v u false → Decides (Covers n A B) false
  covers-second g h = unmarked (marking-then (both-made A B) g h)

  pub covers-full : {v u : List ℕ} {r : Bool} → Marking A s v true → Marking B v u true → Decides (Full n u) r
      → Decides (Covers n A B) r
  covers-full {v} {u} g h d = record {
    sound = λ e. let t = found.sound refl in
        (t.0.0, t.0.1, t.1.0, t.1.1, λ k a b. one-is k (t.2 k) (t.3 k) (d.sound e k a b));
    complete = λ x. let t = found.complete (x.0, x.1) (x.2, x.3) (once x) in
        d.complete (λ k a b z. omega (arith, x.4 k a b, t.1 k, blank.clear k));
  }
    where
      found : Marking (both A B) s u true
      found = marking-then (both-made A B) g h

      one-is : {m : ℕ} (k : ℕ) → get_or s k 0 + m ≤ 1 → get_or u k 0 ≡ get_or s k 0 + m → get_or u k 0 ≢ 0 → m ≡ 1
      one-is {m} k a b ne = omega (arith, blank.clear k, ne)
