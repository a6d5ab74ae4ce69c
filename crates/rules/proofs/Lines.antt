-- The ledger's lines: their climbs, and their sums when a sum is drawn or paid in and when a line is added.
use Prim.Native.Nat.{ℕ, suc, ◌+◌, ◌≤◌, ◌<◌}
use mathlib.Core.Path.{◌≡◌, refl, sym, ap, ap₂, ◌∙◌, subst}
use mathlib.Core.Bool.{Bool, true, false}
use mathlib.Core.List.{List}
use native.Mathlib.Omega.{arith}
use Rattle.rules.specs.Slots.{at, sum_over, mem, climb}
use Rattle.rules.specs.Valid.{Climbs}
use Rattle.rules.specs.Ledger.{Line, Ledger, leads_back, summed, add}
use Rattle.rules.proofs.Tests.{refuted, pick_yes, pick-not}
use Rattle.rules.proofs.Slots.{at-by, at_here, at-else, sum_same, sum-zero, sum-but}
use Rattle.rules.proofs.Climbs.{OneOf, mem-one, climbs-same, climbs-frame, climb-few, climbs-down}

-- the lines of a ledger, without what was drawn and paid in, and without the lockwords
pub record Lines : Type 0 where
  pub count : ℕ
  pub line : ℕ → Line
  pub living : ℕ → Bool

abbrev pub lines_of : Ledger → Lines
lines_of l = record { count = l.count; line = l.line; living = l.living }

-- a line was added after the one that it was derived from
abbrev pub Later : Ledger → Type 0
Later l = (k : ℕ) → 1 ≤ k → k ≤ l.count → (l.line k).from < k

abbrev pub climb_of : Ledger → ℕ → List ℕ
climb_of l k = climb l.count (λ j. (l.line j).from) k

-- ---- the climb of a line

module _ (l : Ledger) (D : Later l) (k : ℕ) (h : k ≤ l.count) where
  pub line-climbs : Climbs (λ j. (l.line j).from) k (climb_of l k)
  line-climbs =
      let r = climbs-down (λ j. (l.line j).from) l.count k k D (omega arith) h in
      let q = climb-few l.count r.1 (λ j o. ((r.2 j o).0, omega (arith, (r.2 j o).1))) in
      subst (λ (xs : List ℕ). Climbs (λ j. (l.line j).from) k xs) (sym q) r.1

  line_low : (j : ℕ) → OneOf j (climb_of l k) → j ≤ k
  line_low j o =
      let r = climbs-down (λ j. (l.line j).from) l.count k k D (omega arith) h in
      (r.2 j (subst (OneOf j) (climbs-same line-climbs r.1) o)).1

-- ---- a sum is added at line k: the sums of those that k leads back to grow by it

-- n where b holds, else 0
unfoldable pub share : Bool → ℕ → ℕ
share b n = elim b [ true ↦ n | false ↦ 0 ]

pub share-yes : (b : Bool) (n : ℕ) → b ≡ true → share b n ≡ n
unfolding share
share-yes b n e = pick_yes b n 0 e

pub share-not : (b : Bool) (n : ℕ) → b ≡ false → share b n ≡ 0
unfolding share
share-not b n e = pick-not b n 0 e

pub share-zero : (b : Bool) → share b 0 ≡ 0
unfolding share
share-zero true = refl
share-zero false = refl

share-add : (b : Bool) (m n : ℕ) → share b (m + n) ≡ share b m + share b n
unfolding share
share-add true m n = refl
share-add false m n = refl

-- the sums that grow
pub summed_at : (l : Ledger) (f : ℕ → ℕ) (k n g : ℕ) → 1 ≤ k → k ≤ l.count
    → summed l (at f k (f k + n)) g ≡ summed l f g + share (leads_back l k g) n
unfolding summed share
summed_at l f k n g a b =
    let e = sum-but l.count (λ j. share (leads_back l j g) (f j))
    (λ j. share (leads_back l j g) (at f k (f k + n) j)) k a b
    (λ j d. ap (share (leads_back l j g)) (at-else f k (f k + n) j d)) in
    let q = ap (share (leads_back l k g)) (at_here f k (f k + n)) ∙ share-add (leads_back l k g) (f k) n in
    omega (arith, e, q)

-- ---- a line is added

module _ (l : Ledger) (y : Line) (D : Later l) (below : y.from ≤ l.count) where
  abbrev new : ℕ
  new = suc l.count

  pub later-add : Later (add l y)
  unfolding add
  later-add = at-by (λ k (z : Line). 1 ≤ k → k ≤ suc l.count → z.from < k) l.line new y
      (λ a b. omega arith) (λ k n a b. D k a (omega arith))

  climb-old : (j : ℕ) → j ≤ l.count → climb_of (add l y) j ≡ climb_of l j
  unfolding add
  climb-old j h = climbs-same (line-climbs (add l y) later-add j (omega arith))
      (climbs-frame {p = λ i. (l.line i).from} {q = λ i. (at l.line new y i).from} (λ i. (1 ≤ i) × (i ≤ l.count))
      (λ i w. (
        ap (λ (z : Line). z.from) (at-else l.line new y i (let v = w.1 in omega arith)),
        λ n. let v = D i w.0 w.1 in let r = w.1 in (omega arith, omega arith),
      ))
      (λ n. (omega arith, h)) (line-climbs l D j h))

  leads-old : (j g : ℕ) → j ≤ l.count → leads_back (add l y) j g ≡ leads_back l j g
  unfolding leads_back
  leads-old j g h = ap (mem g) (climb-old j h)

  -- no old line leads back to the new one
  leads-new : (j : ℕ) → j ≤ l.count → leads_back l j (suc l.count) ≡ false
  unfolding leads_back
  leads-new j h = refuted (mem new (climb_of l j))
      (λ e. let w = line_low l D j h new (mem-one new (climb_of l j) e) in omega arith)

  module _ (f : ℕ → ℕ) where
    -- the new line adds nothing to any sum
    pub summed-old : (g : ℕ) → summed (add l y) (at f (suc l.count) 0) g ≡ summed l f g
    unfolding summed sum_over share add
    summed-old g =
        let a : share (leads_back (add l y) new g) (at f new 0 new) ≡ 0 =
        ap (share (leads_back (add l y) new g)) (at_here f new 0) ∙ share-zero (leads_back (add l y) new g) in
        let b = sum_same l.count (λ j. share (leads_back (add l y) j g) (at f new 0 j))
        (λ j. share (leads_back l j g) (f j))
        (λ j c d. ap₂ share (leads-old j g d) (at-else f new 0 j (omega arith))) in
        omega (arith, a, b)

    -- and has nothing summed to it
    pub summed-new : summed (add l y) (at f (suc l.count) 0) (suc l.count) ≡ 0
    unfolding summed share add
    summed-new = summed-old new
        ∙ sum-zero l.count (λ j. share (leads_back l j new) (f j)) (λ j a b. share-not _ (f j) (leads-new j b))
