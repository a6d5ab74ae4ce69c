-- One row of cells, and one region: what stands in them, and what a store to a cell does.
use Prim.Native.Nat.{ℕ, ◌+◌, ◌≤◌, ◌<◌}
use mathlib.Core.Path.{◌≡◌, refl, sym, ap, ◌∙◌, fun_ext}
use mathlib.Core.Logic.{◌≢◌}
use mathlib.Core.Bool.{true, false}
use mathlib.Core.List.{List}
use native.Mathlib.Omega.{arith}
use native.Mathlib.Decide.{ℕ_discrete, dec_le}
use lib.Dec.{eqb}
use borrow.Author.Tests.{le-leb, lt-leb}
use lib.ListN.{get_or, set, drop, length, length-take, length-drop, length-set}
use lib.Seq.{get_or-set_other, get_or-set_same, get_or-take, get_or-drop, take-set-lt, drop-set-add, ext_get_or}
use Rattle.rules.specs.Slots.{at}
use Rattle.layout.specs.Rows.{cell_of, field, region}
use Rattle.layout.specs.Sizes.{Slot}
use Rattle.rules.proofs.Slots.{at_here, at-else}

-- ---- slots

-- i is a slot of 1 to n, or it is not
pub within : (n i : ℕ) (A : Type 0) → (1 ≤ i → i ≤ n → A) → ((1 ≤ i → i ≤ n → ⊥) → A) → A
within n i A f g = go (dec_le 1 i) (dec_le i n)
  where
    go : Dec (1 ≤ i) → Dec (i ≤ n) → A
    go (yes p) (yes q) = f p q
    go (yes p) (no q) = g (λ _ h. q h)
    go (no p) d = g (λ h _. p h)

-- what differs from f at slot i alone
pub at-is : {A : Type 0} (f g : ℕ → A) (i : ℕ) (v : A) → g i ≡ v → ((j : ℕ) → j ≢ i → g j ≡ f j) → g ≡ at f i v
at-is f g i v here else = fun_ext (λ j. go j (ℕ_discrete j i))
  where
    go : (j : ℕ) → Dec (j ≡ i) → g j ≡ at f i v j
    go j (yes e) = rw (e, at_here) here
    go j (no ne) = else j ne ∙ sym (at-else f i v j ne)

-- a change of slot i is the same to two functions at a slot where they are
pub at-ap : {A : Type 0} (f g : ℕ → A) (i : ℕ) (v : A) (j : ℕ) → f j ≡ g j → at f i v j ≡ at g i v j
unfolding at
at-ap f g i v j h = ap (λ x. elim (eqb j i) [ true ↦ v | false ↦ x ]) h

-- ---- a row of n slots from off on: its cells in its slots, and 0 elsewhere

-- of any type
pub cell_in : {A : Type 0} (none : A) (n off : ℕ) (l : List A) (i : ℕ) → 1 ≤ i → i ≤ n
    → cell_of none n off l i ≡ get_or l (off + i) none
unfolding cell_of
cell_in none n off l i p q = rw (le-leb 1 i p, le-leb i n q, cell_of)

pub cell_out : {A : Type 0} (none : A) (n off : ℕ) (l : List A) (i : ℕ) → (1 ≤ i → i ≤ n → ⊥)
    → cell_of none n off l i ≡ none
unfolding cell_of
cell_out none n off l i f = go (dec_le 1 i) (dec_le i n)
  where
    go : Dec (1 ≤ i) → Dec (i ≤ n) → cell_of none n off l i ≡ none
    go (yes p) (yes q) = absurd (f p q)
    go (yes p) (no q) = rw (le-leb 1 i p, lt-leb i n (omega arith), cell_of)
    go (no p) d = rw (lt-leb 1 i (omega arith), cell_of)

-- of numbers
pub field_in : (n off : ℕ) (l : List ℕ) (i : ℕ) → 1 ≤ i → i ≤ n → field n off l i ≡ get_or l (off + i) 0
field_in = cell_in 0

pub row : {n : ℕ} (off : ℕ) (l : List ℕ) (i : ℕ) → Slot n i → field n off l i ≡ get_or l (off + i) 0
row {n} off l i s = field_in n off l i s.low s.high

pub field_out : (n off : ℕ) (l : List ℕ) (i : ℕ) → (1 ≤ i → i ≤ n → ⊥) → field n off l i ≡ 0
field_out = cell_out 0

-- what holds of the cells, and of 0, holds of a row
pub field-by : (P : ℕ → Type 0) (n off : ℕ) (l : List ℕ) (i : ℕ)
    → (1 ≤ i → i ≤ n → P (get_or l (off + i) 0)) → P 0 → P (field n off l i)
field-by P n off l i f z =
    within n i (P (field n off l i)) (λ p q. rw (field_in n off l i p q) (f p q)) (λ g. rw (field_out n off l i g) z)

-- a slot whose cell is not 0 is one of the row's
pub field-low : (n off : ℕ) (l : List ℕ) (i : ℕ) → field n off l i ≢ 0 → 1 ≤ i
field-low n off l i = field-by (λ x. x ≢ 0 → 1 ≤ i) n off l i (λ p q _. p) (λ h. absurd (h refl))

pub field-high : (n off : ℕ) (l : List ℕ) (i : ℕ) → field n off l i ≢ 0 → i ≤ n
field-high n off l i = field-by (λ x. x ≢ 0 → i ≤ n) n off l i (λ p q _. q) (λ h. absurd (h refl))

-- the bound of the slice's cells (`Typed`) is the row's
pub field-le : (m n off : ℕ) (l : List ℕ) (i : ℕ) → ((k : ℕ) → get_or l k 0 ≤ m) → field n off l i ≤ m
field-le m n off l i h = field-by (λ x. x ≤ m) n off l i (λ _ _. h (off + i)) (omega arith)

-- the same cells are the same row
pub field-cells : (n off : ℕ) (k l : List ℕ)
    → ((i : ℕ) → 1 ≤ i → i ≤ n → get_or k (off + i) 0 ≡ get_or l (off + i) 0) → field n off k ≡ field n off l
field-cells n off k l h = fun_ext (λ i. within n i (field n off k i ≡ field n off l i)
    (λ p q. field_in n off k i p q ∙ h i p q ∙ sym (field_in n off l i p q))
    (λ g. field_out n off k i g ∙ sym (field_out n off l i g)))

-- a store to a cell that is none of the row's slots: of another row, of a region, a head, the row's own slot 0
pub field-other : (n off : ℕ) (l : List ℕ) (c v : ℕ)
    → ((i : ℕ) → 1 ≤ i → i ≤ n → off + i ≢ c) → field n off (set l c v) ≡ field n off l
field-other n off l c v h =
    field-cells n off (set l c v) l (λ i p q. get_or-set_other l c (off + i) v 0 (h i p q))

-- a store to a slot of the row changes that slot; one to its cell of slot 0 shows at none of the slots from 1 on
module _ (n off : ℕ) (l : List ℕ) (i v : ℕ) (high : i ≤ n) (fits : off + n < length l) where
  same_here : 1 ≤ i → field n off (set l (off + i) v) i ≡ v
  same_here low = field_in n off (set l (off + i) v) i low high ∙ get_or-set_same l (off + i) v 0 (omega arith)

  same-else : (j : ℕ) → j ≢ i → field n off (set l (off + i) v) j ≡ field n off l j
  same-else j ne = within n j (field n off (set l (off + i) v) j ≡ field n off l j)
      (λ p q. field_in n off (set l (off + i) v) j p q
      ∙ get_or-set_other l (off + i) (off + j) v 0 (omega arith) ∙ sym (field_in n off l j p q))
      (λ g. field_out n off (set l (off + i) v) j g ∙ sym (field_out n off l j g))

  pub field-same : 1 ≤ i → field n off (set l (off + i) v) ≡ at (field n off l) i v
  field-same low = at-is (field n off l) (field n off (set l (off + i) v)) i v (same_here low) same-else

  pub field-same-at : (j : ℕ) → 1 ≤ j → field n off (set l (off + i) v) j ≡ at (field n off l) i v j
  field-same-at j low = go (ℕ_discrete j i)
    where
      go : Dec (j ≡ i) → field n off (set l (off + i) v) j ≡ at (field n off l) i v j
      go (yes e) = rw (e, at_here) (same_here (omega arith))
      go (no ne) = same-else j ne ∙ sym (at-else (field n off l) i v j ne)

-- ---- a region of n cells from off on

pub region-length : (n off : ℕ) (l : List ℕ) → off + n ≤ length l → length (region n off l) ≡ n
unfolding region
region-length n off l h = simp (length-take, length-drop) (omega arith)

pub region-at : (n off : ℕ) (l : List ℕ) (i : ℕ) → i < n → get_or (region n off l) i 0 ≡ get_or l (off + i) 0
unfolding region
region-at n off l i h = get_or-take n (drop off l) i 0 h ∙ get_or-drop off l i 0

-- the same cells are the same region
pub region-cells : (n off : ℕ) (k l : List ℕ) → length k ≡ length l
    → ((i : ℕ) → i < n → get_or k (off + i) 0 ≡ get_or l (off + i) 0) → region n off k ≡ region n off l
unfolding region
region-cells n off k l e h = ext_get_or 0 (region n off k) (region n off l)
    (simp (length-take, length-drop, e))
    (λ i p.
    let q : i < n = omega (arith, p, length-take n (drop off k)) in
    region-at n off k i q ∙ h i q ∙ sym (region-at n off l i q))

-- a store to a cell outside, and to one of the region's
pub region-other : (n off : ℕ) (l : List ℕ) (c v : ℕ)
    → ((i : ℕ) → i < n → off + i ≢ c) → region n off (set l c v) ≡ region n off l
region-other n off l c v h = region-cells n off (set l c v) l (length-set l c v)
    (λ i p. get_or-set_other l c (off + i) v 0 (h i p))

pub region-same : (n off : ℕ) (l : List ℕ) (i v : ℕ) → i < n
    → region n off (set l (off + i) v) ≡ set (region n off l) i v
unfolding region
region-same n off l i v h = rw (drop-set-add off l i v) (take-set-lt n (drop off l) i v h)
