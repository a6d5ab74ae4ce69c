-- What a field holds after stores to the slice: a store outside its row, a store to one of its slots, zeros everywhere.
-- The side conditions compute at the numbers of a layout, so that `simp` reads through any row of stores.
use Prim.Native.Nat.{ℕ, zero, suc, ◌+◌, ◌-◌, ◌≤◌, ◌<◌}
use mathlib.Core.Path.{◌≡◌, refl, sym, ◌∙◌, fun_ext}
use mathlib.Core.Logic.{◌≢◌}
use mathlib.Core.Bool.{Bool, true, false, ◌&&◌, ◌||◌}
use mathlib.Core.List.{List}
use native.Mathlib.Omega.{arith}
use lib.Dec.{eqb, leb, ltb}
use borrow.Author.Tests.{eqb-false, leb-true, ltb-true}
use lib.ListN.{length, get_or, set, length-replicate}
use lib.Seq.{get_or-set_same, get_or-set_other}
use Rattle.rules.specs.Slots.{at}
use Rattle.rules.proofs.Tests.{all2}
use Rattle.layout.specs.Rows.{cell_of, field}
use Rattle.kernel_fresh.specs.Stores.{zeros}
use Rattle.layout.proofs.Field.{field_in, at-is}

or_cases : {A : Type 0} (a b : Bool) → (a || b) ≡ true → (a ≡ true → A) → (b ≡ true → A) → A
or_cases true b h f g = f refl
or_cases false b h f g = g h

-- fields agree where their cells do
pub field-agree : (n off : ℕ) (l m : List ℕ) (j : ℕ)
    → (1 ≤ j → j ≤ n → get_or l (off + j) 0 ≡ get_or m (off + j) 0)
    → field n off l j ≡ field n off m j
unfolding cell_of
field-agree n off l m j same = go (leb 1 j && leb j n) refl
  where
    go : (u : Bool) → (leb 1 j && leb j n) ≡ u → field n off l j ≡ field n off m j
    go true e =
        let low : 1 ≤ j = leb-true 1 j (all2 (leb 1 j) (leb j n) e).0 in
        let high : j ≤ n = leb-true j n (all2 (leb 1 j) (leb j n) e).1 in
        field_in n off l j low high ∙ same low high ∙ sym (field_in n off m j low high)
    go false e = rw (e, cell_of)

-- ---- a store

-- the cells from c to d are none of the row of n slots at off
abbrev pub apart : ℕ → ℕ → ℕ → ℕ → Bool
apart n off c d = leb d off || ltb (off + n) c

pub apart-cells : (n off c d j k : ℕ) → apart n off c d ≡ true → 1 ≤ j → j ≤ n → c ≤ k → k ≤ d → off + j ≢ k
apart-cells n off c d j k a low high lowk highk e =
    or_cases (leb d off) (ltb (off + n) c) a
    (λ t. omega (arith, leb-true d off t))
    (λ t. omega (arith, ltb-true (off + n) c t))

pub set_apart : (n off : ℕ) (l : List ℕ) (c v : ℕ) → apart n off c c ≡ true → field n off (set l c v) ≡ field n off l
set_apart n off l c v a = fun_ext (λ j. field-agree n off (set l c v) l j
    (λ low high. get_or-set_other l c (off + j) v 0 (apart-cells n off c c j c a low high (omega arith) (omega arith))))

-- one cell
pub set_here : (l : List ℕ) (c v : ℕ) → ltb c (length l) ≡ true → get_or (set l c v) c 0 ≡ v
set_here l c v h = get_or-set_same l c v 0 (ltb-true c (length l) h)

pub set_else : (l : List ℕ) (c k v : ℕ) → eqb k c ≡ false → get_or (set l c v) k 0 ≡ get_or l k 0
set_else l c k v h = get_or-set_other l c k v 0 (eqb-false k c h)

-- the cell c is one of the row's
pub set-slot : (n off : ℕ) (l : List ℕ) (c v : ℕ)
    → (ltb off c && leb c (off + n)) ≡ true → ltb c (length l) ≡ true
    → field n off (set l c v) ≡ at (field n off l) (c - off) v
set-slot n off l c v in_row in_List =
    let low : off < c = ltb-true off c (all2 (ltb off c) (leb c (off + n)) in_row).0 in
    let high : c ≤ off + n = leb-true c (off + n) (all2 (ltb off c) (leb c (off + n)) in_row).1 in
    let e : off + (c - off) ≡ c = omega arith in
    at-is (field n off l) (field n off (set l c v)) (c - off) v
    (field_in n off (set l c v) (c - off) (omega arith) (omega arith)
    ∙ rw e (set_here l c v in_List))
    (λ j ne. field-agree n off (set l c v) l j
    (λ a b. get_or-set_other l c (off + j) v 0 (λ q. ne (omega arith))))

-- ---- zeros

pub length-zeros : (m : ℕ) → length (zeros m) ≡ m
unfolding zeros
length-zeros m = length-replicate m 0

pub zero-cell : (m i : ℕ) → get_or (zeros m) i 0 ≡ 0
unfolding zeros
zero-cell zero i = refl
zero-cell (suc m) zero = refl
zero-cell (suc m) (suc i) = zero-cell m i

pub zero_row : (n off m : ℕ) → field n off (zeros m) ≡ (λ j. 0)
unfolding cell_of
zero_row n off m = fun_ext (λ j. go j (leb 1 j && leb j n) refl)
  where
    go : (j : ℕ) (u : Bool) → (leb 1 j && leb j n) ≡ u → field n off (zeros m) j ≡ 0
    go j true e = rw (e, cell_of) (zero-cell m (off + j))
    go j false e = rw (e, cell_of)
