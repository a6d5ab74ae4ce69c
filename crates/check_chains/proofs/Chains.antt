-- Chains as parts: one step along a chain, one object after another, and the free list.
use mathlib.Core.Path.{◌≡◌, refl, ap, sym, ◌∙◌}
use mathlib.Core.Logic.{◌≢◌}
use mathlib.Core.Bool.{Bool, true, false, false≢true}
use mathlib.Core.List.{List, [], ◌∷◌}
use Prim.Native.Nat.{ℕ, zero, suc, ◌+◌, ◌-◌, ◌≤◌}
use native.Mathlib.Omega.{arith}
use native.Mathlib.Decide.{ℕ_discrete}
use lib.ListN.{get_or, set, length-set}
use Rattle.rules.specs.Slots.{at, sum_over}
use Rattle.layout.specs.Shape.{Chain, times}
use Rattle.layout.specs.Rows.{field}
use Rattle.layout.proofs.Field.{field_in}
use Rattle.rules.proofs.Slots.{at_here, at-else, sum_same}
use Rattle.layout.specs.Decides.{Decides}
use Rattle.check_chains.specs.Marking.{AtSlots, VisitMarks, Blank, FreeMarked, Part, Marking}
use Rattle.check_chains.specs.Parts.{chain_with, Any, Long, JustFree, each}
use Rattle.check_chains.proofs.Marking.{Made, single, marking-nothing, marking-one, marking-refused}
use Rattle.check_chains.proofs.Marking.{Going, going_on, going-broken}

-- ---- one step along a chain

-- P holds of the chain from j on as B and, of the rest, as Q
pub record Steps (P Q : List ℕ → Type 0) (B : Type 0) (j : ℕ) : Type 0 where
  pub join : (xs : List ℕ) → B → Q xs → P (j ∷ xs)
  pub split : (xs : List ℕ) → P (j ∷ xs) → B × Q xs

pub any-steps : (j : ℕ) → Steps Any Any (Unit {0}) j
any-steps j = record { join = λ xs b q. q; split = λ xs p. (tt, tt) }

pub long-steps : (m j : ℕ) → Steps (Long m) (Long (m - 1)) (1 ≤ m) j
long-steps m j = record { join = λ xs b q. omega arith; split = λ xs p. (omega arith, omega arith) }

-- the chain from j on is j and the chain from its next on
chain-made : (n : ℕ) (next : ℕ → ℕ) {P Q : List ℕ → Type 0} {B : Type 0} {j : ℕ} → Steps P Q B j → 1 ≤ j
    → Made (chain_with n next P j) (single ((j ≤ n) × B) j) (chain_with n next Q (next j))
unfolding Chain times
chain-made n next {P} {Q} {B} {j} steps low = record {
  join = λ _ xs here rest. (j ∷ xs, ((refl, low, here.0, rest.0), steps.join xs here.1 rest.1), λ k. refl);
  split = parts;
}
  where
    parts : (xs : List ℕ) → Chain n next j xs × P xs → Unit {0} × (ys : List ℕ) × ((j ≤ n) × B)
        × (Chain n next (next j) ys × Q ys) × ((k : ℕ) → times k xs ≡ times k (j ∷ ys))
    parts [] h = absurd (omega (arith, h.0))
    parts (i ∷ xs) h =
        let e : i ≡ j = sym h.0.0 in
        let p : P (j ∷ xs) = rw e at h.1 in
        let t = steps.split xs p in
        (tt, xs, (omega (arith, h.0.2), t.0), ((rw e at h.0.3), t.1), λ k. ap (λ x. times k (x ∷ xs)) e)

-- one turn of a loop that walks by the row from off on: j is visited, or it is refused
module _ (n off : ℕ) (l : List ℕ) {P Q : List ℕ → Type 0} {B : Type 0} {j : ℕ} (steps : Steps P Q B j)
    {s t : List ℕ} {W : Part} (now : Going n (chain_with n (field n off l) P j) s W t) (low : 1 ≤ j) where
  pub walk-on : (i : ℕ) → j ≤ n → get_or s j 0 ≡ 0 → B → i ≡ get_or l (off + j) 0
      → Going n (chain_with n (field n off l) Q i) (set s j 1) W t
  walk-on i high z b e = rw (e ∙ sym (field_in n off l j low high))
      (going_on now (chain-made n (field n off l) steps low) (length-set s j 1)
      (marking-one now.marks high z (high, b)))

  pub walk-broken : {u : List ℕ} → (j ≤ n → get_or s j 0 ≡ 0 → B → ⊥) → Marking W t u false
  walk-broken {u} f =
      going-broken now (chain-made n (field n off l) steps low) {v = u} (marking-refused j (λ h z. f h.0 z h.1))

-- the chain ends here
pub chain-end : (n : ℕ) (next : ℕ → ℕ) (P : List ℕ → Type 0) (j : ℕ) {s : List ℕ} (r : Bool) → VisitMarks n s → j ≡ 0
    → (r ≡ true → P []) → (P [] → r ≡ true) → Marking (chain_with n next P j) s s r
unfolding Chain times
chain-end n next P j r m z some all = marking-nothing r m (λ e. ([], (z, some e))) ended
  where
    ended : (xs : List ℕ) → Chain n next j xs × P xs → (r ≡ true) × ((k : ℕ) → times k xs ≡ 0)
    ended [] h = (all h.1, λ k. refl)
    ended (i ∷ xs) h = absurd (omega (arith, h.0.0, h.0.1))

-- ---- one object after another

module _ {X : Type 0} (Fits : ℕ → X → Type 0) (holds : X → ℕ → ℕ) where
  -- what object o has
  abbrev pub at-object : ℕ → Part
  at-object o = record { Thing = X; Fits = Fits o; holds = holds }

  pub each-end : X → (n : ℕ) {s : List ℕ} → VisitMarks 512 s → n ≡ 0 → Marking (each Fits holds n) s s true
  unfolding sum_over
  each-end some zero m e =
      marking-nothing true m (λ _. ((λ o. some), λ o a b. absurd (omega arith))) (λ T h. (refl, λ k. refl))
  each-end some (suc n) m e = absurd (omega arith)

  pub each-made : (n : ℕ) → 1 ≤ n → Made (each Fits holds n) (at-object n) (each Fits holds (n - 1))
  unfolding sum_over
  each-made zero low = absurd (omega arith)
  each-made (suc n) low = rw (less n) (record {
    join = λ x T here rest. (at T (suc n) x, fits x T here rest, adds x T);
    split = λ T h. (T (suc n), T, h (suc n) (omega arith) (omega arith), (λ o a b. h o a (omega arith)), λ k. refl);
  })
    where
      less : (m : ℕ) → suc m - 1 ≡ m
      less m = omega arith

      fits : (x : X) (T : ℕ → X) → Fits (suc n) x → AtSlots n (λ o. Fits o (T o))
          → AtSlots (suc n) (λ o. Fits o (at T (suc n) x o))
      fits x T here rest o a b = go (ℕ_discrete o (suc n))
        where
          go : Dec (o ≡ suc n) → Fits o (at T (suc n) x o)
          go (yes e) = rw (e, at_here T (suc n) x) here
          go (no ne) = rw (at-else T (suc n) x o ne) (rest o a (omega arith))

      adds : (x : X) (T : ℕ → X) (k : ℕ)
          → sum_over (suc n) (λ o. holds (at T (suc n) x o) k) ≡ holds x k + sum_over n (λ o. holds (T o) k)
      adds x T k = omega (
        arith,
        ap (λ y. holds y k) (at_here T (suc n) x),
        sum_same n (λ o. holds (at T (suc n) x o) k) (λ o. holds (T o) k)
            (λ i a b. ap (λ y. holds y k) (at-else T (suc n) x i (λ e. omega arith))),
      )

-- ---- the free list: it holds just the free records if it marks just those

marked : (m : ℕ) → m ≢ 0 → 1 ≤ m
marked m ne = omega arith

module _ (n : ℕ) (next f : ℕ → ℕ) (head : ℕ) {s v : List ℕ} where
  pub free-chain-broken : Marking (chain_with n next Any head) s v false
      → Marking (chain_with n next (JustFree n f) head) s v false
  free-chain-broken h = record {
    sound = λ e. absurd (false≢true e);
    complete = λ xs fits once. h.complete xs (fits.0, tt) once;
  }

  pub free-chain-is : {r : Bool} → Blank n s → Marking (chain_with n next Any head) s v true
      → Decides (FreeMarked n f v) r → Marking (chain_with n next (JustFree n f) head) s v r
  free-chain-is blank h d = record {
    sound = λ e. let t = h.sound refl in (
      t.0,
      (
        t.1.0,
        λ k a b. record {
          free = λ m. (d.sound e k a b).free (λ z. omega (arith, t.3 k));
          live = λ z. (d.sound e k a b).live (omega (arith, t.3 k, blank.clear k));
        },
      ),
      t.2,
      t.3,
    );
    complete = λ xs fits once. let t = h.complete xs (fits.0, tt) once in (
      d.complete (λ k a b. record {
        free = λ ne. (fits.1 k a b).free (omega (arith, t.1 k, blank.clear k, marked (get_or v k 0) ne));
        live = λ z. (fits.1 k a b).live (omega (arith, t.1 k));
      }),
      t.1,
    );
  }
