-- A list of stores to a slice, the last one first, and what each row, head and region is after them: one law for every
-- call. The tests of a law are closed by `refl`, the bounds by `omega arith`.
use Prim.Native.Nat.{ℕ, suc, ◌+◌, ◌≤◌, ◌<◌}
use mathlib.Core.Path.{◌≡◌, refl, sym, ap, ◌∙◌, fun_ext}
use mathlib.Core.Logic.{◌≢◌}
use mathlib.Core.Bool.{Bool, true, false, ◌&&◌, ◌||◌}
use mathlib.Core.List.{List, [], ◌∷◌}
use native.Mathlib.Omega.{arith}
use native.Mathlib.Decide.{ℕ_discrete}
use lib.Dec.{eqb, leb}
use borrow.Author.Tests.{eqb-true, leb-true}
use lib.ListN.{get_or, set, length, length-set}
use lib.Seq.{get_or-set_other, get_or-set_same}
use Rattle.rules.specs.Slots.{at}
use Rattle.layout.specs.Rows.{field, region}
use Rattle.rules.proofs.Tests.{all2}
use Rattle.rules.proofs.Slots.{at-else}
use Rattle.layout.proofs.Field.{at-ap, field_out, field-other, field-same-at, region-other}

-- the value v to slot i of the row that starts at off and has slots up to n; a head is slot 0 of a row of 0
pub data Put : Type 0 where
  put : (n off i v : ℕ) → Put

abbrev pub puts : List Put → List ℕ → List ℕ
puts [] l = l
puts (put n off i v ∷ ws) l = set (puts ws l) (off + i) v

pub length-puts : (ws : List Put) (l : List ℕ) → length (puts ws l) ≡ length l
length-puts [] l = refl
length-puts (put n off i v ∷ ws) l = length-set (puts ws l) (off + i) v ∙ length-puts ws l

-- ---- the tests

-- n cells from off on and m cells from p on have none in common
abbrev pub apart : ℕ → ℕ → ℕ → ℕ → Bool
apart n off m p = leb (off + n) p || leb (p + m) off

-- each store is to the row of n slots at off, or to a row that has no cell in common with it
abbrev pub tidy : ℕ → ℕ → List Put → Bool
tidy n off [] = true
tidy n off (put m p i v ∷ ws) =
    elim (eqb p off) [ true ↦ eqb m n | false ↦ apart (suc n) off (suc m) p ] && tidy n off ws

-- each store is to a row that has no cell in common with the region of n cells at off
abbrev pub beside : ℕ → ℕ → List Put → Bool
beside n off [] = true
beside n off (put m p i v ∷ ws) = apart n off (suc m) p && beside n off ws

-- each slot is in its row
abbrev pub Within : List Put → Type 0
Within [] = Unit {0}
Within (put m p i v ∷ ws) = (i ≤ m) × Within ws

-- and is not 0 in the row at off
abbrev pub Some : ℕ → List Put → Type 0
Some off [] = Unit {0}
Some off (put m p i v ∷ ws) = (elim (eqb p off) as (λ _. Type 0) [ true ↦ 1 ≤ i | false ↦ Unit {0} ]) × Some off ws

-- ---- what the stores make of a row f at off, and of a head x

abbrev pub row_of : ℕ → List Put → (ℕ → ℕ) → ℕ → ℕ
row_of off [] f = f
row_of off (put m p i v ∷ ws) f = elim (eqb p off) [ true ↦ at (row_of off ws f) i v | false ↦ row_of off ws f ]

abbrev pub head_of : ℕ → List Put → ℕ → ℕ
head_of h [] x = x
head_of h (put m p i v ∷ ws) x = elim (eqb p h) [ true ↦ v | false ↦ head_of h ws x ]

-- ---- the laws

apart-cells : (n off m p i j : ℕ) → apart n off m p ≡ true → i < n → j < m → off + i ≢ p + j
apart-cells n off m p i j h a b = go (leb (off + n) p) refl h
  where
    go : (t : Bool) → leb (off + n) p ≡ t → (t || leb (p + m) off) ≡ true → off + i ≢ p + j
    go true e _ = omega (arith, leb-true (off + n) p e)
    go false e r = omega (arith, leb-true (p + m) off r)

row_zero : (off : ℕ) (ws : List Put) (f : ℕ → ℕ) → Some off ws → row_of off ws f 0 ≡ f 0
row_zero off [] f s = refl
row_zero off (put m p i v ∷ ws) f s = go (eqb p off) refl s.0 (row_zero off ws f s.1)
  where
    go : (t : Bool) → eqb p off ≡ t → (elim (eqb p off) as (λ _. Type 0) [ true ↦ 1 ≤ i | false ↦ Unit {0} ])
        → row_of off ws f 0 ≡ f 0 → row_of off (put m p i v ∷ ws) f 0 ≡ f 0
    go true e q ih =
        let low : 1 ≤ i = rw e at q in
        rw (e, row_of) (at-else (row_of off ws f) i v 0 (omega arith) ∙ ih)
    go false e q ih = rw (e, row_of) ih

module _ (n off : ℕ) (l : List ℕ) (fits : off + n < length l) where
  -- one store more
  step-at : (m p i v : ℕ) (ws : List Put) (k : ℕ) (t : Bool) → eqb p off ≡ t → 1 ≤ k → i ≤ m
      → elim (eqb p off) [ true ↦ eqb m n | false ↦ apart (suc n) off (suc m) p ] ≡ true
      → field n off (puts ws l) k ≡ row_of off ws (field n off l) k
      → field n off (set (puts ws l) (p + i) v) k ≡ row_of off (put m p i v ∷ ws) (field n off l) k
  step-at m p i v ws k true e low h c ih =
      let q : p ≡ off = eqb-true p off e in
      let r : m ≡ n = eqb-true m n (rw e at c) in
      rw (e, row_of) (rw q (field-same-at n off (puts ws l) i v (omega arith) (rw (length-puts ws l) fits) k low
      ∙ at-ap (field n off (puts ws l)) (row_of off ws (field n off l)) i v k ih))
  step-at m p i v ws k false e low h c ih =
      rw (e, row_of) (ap (λ (f : ℕ → ℕ). f k) (field-other n off (puts ws l) (p + i) v
      (λ j a b. apart-cells (suc n) off (suc m) p j i (rw e at c) (omega arith) (omega arith))) ∙ ih)

  pub field-puts-at : (ws : List Put) → tidy n off ws ≡ true → Within ws → (k : ℕ) → 1 ≤ k
      → field n off (puts ws l) k ≡ row_of off ws (field n off l) k
  field-puts-at [] t s k low = refl
  field-puts-at (put m p i v ∷ ws) t s k low =
      let b = all2 (elim (eqb p off) [ true ↦ eqb m n | false ↦ apart (suc n) off (suc m) p ]) (tidy n off ws) t in
      step-at m p i v ws k (eqb p off) refl low s.0 b.0 (field-puts-at ws b.1 s.1 k low)

  pub field_puts : (ws : List Put) → tidy n off ws ≡ true → Within ws → Some off ws
      → field n off (puts ws l) ≡ row_of off ws (field n off l)
  field_puts ws t h s = fun_ext (λ k. go k (ℕ_discrete k 0))
    where
      go : (k : ℕ) → Dec (k ≡ 0) → field n off (puts ws l) k ≡ row_of off ws (field n off l) k
      go k (yes z) = rw z (field_out n off (puts ws l) 0 (λ a _. omega arith)
          ∙ sym (row_zero off ws (field n off l) s ∙ field_out n off l 0 (λ a _. omega arith)))
      go k (no nz) = field-puts-at ws t h k (omega arith)

-- a head
pub head_puts : (h : ℕ) (l : List ℕ) → h < length l → (ws : List Put) → tidy 0 h ws ≡ true → Within ws
    → get_or (puts ws l) h 0 ≡ head_of h ws (get_or l h 0)
head_puts h l fits [] t s = refl
head_puts h l fits (put m p i v ∷ ws) t s =
    let b = all2 (elim (eqb p h) [ true ↦ eqb m 0 | false ↦ apart 1 h (suc m) p ]) (tidy 0 h ws) t in
    go (eqb p h) refl b.0 (head_puts h l fits ws b.1 s.1)
  where
    go : (u : Bool) → eqb p h ≡ u → elim (eqb p h) [ true ↦ eqb m 0 | false ↦ apart 1 h (suc m) p ] ≡ true
        → get_or (puts ws l) h 0 ≡ head_of h ws (get_or l h 0)
        → get_or (set (puts ws l) (p + i) v) h 0 ≡ head_of h (put m p i v ∷ ws) (get_or l h 0)
    go true e c ih =
        let q : p + i ≡ h = omega (arith, s.0, eqb-true p h e, eqb-true m 0 (rw e at c)) in
        rw (e, head_of) (rw q (get_or-set_same (puts ws l) h v 0 (rw (length-puts ws l) fits)))
    go false e c ih = rw (e, head_of) (get_or-set_other (puts ws l) (p + i) h v 0
        (λ x. apart-cells 1 h (suc m) p 0 i (rw e at c) (omega arith) (omega (arith, s.0)) (omega arith)) ∙ ih)

-- a row and a region that no store is to
module _ (n off : ℕ) (l : List ℕ) where
  pub field-kept : (ws : List Put) → beside (suc n) off ws ≡ true → Within ws → field n off (puts ws l) ≡ field n off l
  field-kept [] t s = refl
  field-kept (put m p i v ∷ ws) t s =
      let b = all2 (apart (suc n) off (suc m) p) (beside (suc n) off ws) t in
      field-other n off (puts ws l) (p + i) v (λ j _ a. apart-cells (suc n) off (suc m) p j i b.0
      (omega arith) (omega (arith, s.0)))
      ∙ field-kept ws b.1 s.1

  pub region-kept : (ws : List Put) → beside n off ws ≡ true → Within ws → region n off (puts ws l) ≡ region n off l
  region-kept [] t s = refl
  region-kept (put m p i v ∷ ws) t s =
      let b = all2 (apart n off (suc m) p) (beside n off ws) t in
      region-other n off (puts ws l) (p + i) v (λ j a. apart-cells n off (suc m) p j i b.0 a (omega (arith, s.0)))
      ∙ region-kept ws b.1 s.1
