-- Chains cut and joined: what stands before and after a record, the last record of a chain linked on to another chain,
-- and a record left out.
use Prim.Native.Nat.{ℕ, ◌≤◌}
use mathlib.Core.Path.{◌≡◌, refl, sym, ap, ◌∙◌}
use mathlib.Core.Logic.{◌≢◌}
use mathlib.Core.List.{List, [], ◌∷◌, ◌++◌}
use native.Mathlib.Omega.{arith}
use lib.Dec.{eqb}
use lib.ListN.{length}
use Rattle.rules.specs.Slots.{one}
use Rattle.rules.proofs.Tests.{by-eq}
use Rattle.layout.specs.Shape.{Chain, times}
use Rattle.layout.proofs.Counts.{one_same, one-other}
use Rattle.layout.proofs.Linking.{times-append, chain-low, chain-frame, chain_head}

-- ---- chains of none and of some

pub empty : (xs : List ℕ) → length xs ≡ 0 → xs ≡ []
empty [] e = refl
empty (j ∷ xs) e = absurd (omega arith)

pub head-none : (n : ℕ) (next : ℕ → ℕ) (head : ℕ) (xs : List ℕ) → Chain n next head xs → length xs ≡ 0 → head ≡ 0
unfolding Chain
head-none n next head [] c e = c
head-none n next head (j ∷ xs) c e = absurd (omega arith)

pub head-some : (n : ℕ) (next : ℕ → ℕ) (head : ℕ) (xs : List ℕ) → Chain n next head xs → length xs ≢ 0 → head ≢ 0
unfolding Chain
head-some n next head [] c nz = absurd (nz refl)
head-some n next head (j ∷ xs) c nz = λ z. omega (arith, c.0, c.1)

-- ---- what stands before and after

-- a record and the next one
pub next-split : (n : ℕ) (next : ℕ → ℕ) (head : ℕ) (xs : List ℕ) (i : ℕ) → Chain n next head xs → 1 ≤ times i xs
    → next i ≢ 0 → (ys : List ℕ) × (zs : List ℕ) × (xs ≡ ys ++ i ∷ next i ∷ zs)
unfolding Chain times
next-split n next head [] i c h ne = absurd (omega arith)
next-split n next head (j ∷ xs) i c h ne =
    let later = next-split n next (next j) xs i c.3 in
    by-eq i j
    (λ e.
    let t = chain_head n next (next j) xs c.3 (λ z. ne (ap next e ∙ z)) in
    ([], t.0, ap (λ x. j ∷ x) t.1 ∙ ap (λ x. x ∷ next x ∷ t.0) (sym e)))
    (λ d.
    let t = later (omega (arith, one-other i j d)) ne in
    (j ∷ t.0, t.1, ap (λ x. j ∷ x) t.2))

-- one that is not the head has one before it
pub before-some : (n : ℕ) (next : ℕ → ℕ) (head : ℕ) (xs : List ℕ) (o : ℕ) → Chain n next head xs → 1 ≤ times o xs
    → head ≢ o → (i : ℕ) × (1 ≤ times i xs) × (next i ≡ o)
unfolding Chain times
before-some n next head [] o c h ne = absurd (omega arith)
before-some n next head (j ∷ xs) o c h ne =
    let later = before-some n next (next j) xs o c.3
    (omega (arith, one-other o j (λ e. ne (c.0 ∙ sym e)))) in
    by-eq (next j) o
    (λ e. (j, omega (arith, one_same j), e))
    (λ d. let t = later d in (t.0, omega (arith, t.1), t.2))

-- ---- one link changed

module _ (n : ℕ) (next next' : ℕ → ℕ) (j : ℕ) (kept : (k : ℕ) → 1 ≤ k → k ≢ j → next' k ≡ next k) where
  other : (ys : List ℕ) → times j ys ≡ 0 → (k : ℕ) → 1 ≤ k → 1 ≤ times k ys → next' k ≡ next k
  other ys z k low m = kept k low (λ e. omega (arith, z, ap (λ x. times x ys) e))

  framed : (head : ℕ) (ys : List ℕ) → times j ys ≡ 0 → Chain n next head ys → Chain n next' head ys
  framed head ys z c =
      chain-frame n next next' head ys c (λ k m. other ys z k (chain-low n next head ys k c m) m)

  -- the last record of a chain linked on to another chain
  pub chain-join : (head : ℕ) (xs ys : List ℕ) → ((k : ℕ) → times k (xs ++ j ∷ ys) ≤ 1)
      → Chain n next head (xs ++ j ∷ []) → Chain n next (next' j) ys → Chain n next' head (xs ++ j ∷ ys)
  unfolding Chain times
  chain-join head [] ys d c b = (c.0, c.1, c.2, framed (next' j) ys (omega (arith, d j, one_same j)) b)
  chain-join head (i ∷ xs) ys d c b =
      let e : next' i ≡ next i = kept i c.1
      (λ q. omega (arith, d j, one_same j, times-append j xs (j ∷ ys), ap (λ x. one (eqb j x)) q)) in
      (c.0, c.1, c.2, rw e (chain-join (next i) xs ys (λ k. omega (arith, d k)) c.3 b))

  -- a link that leads over the next record
  pub chain-over : (head o : ℕ) (xs ys : List ℕ) → next' j ≡ next o → ((k : ℕ) → times k (xs ++ j ∷ o ∷ ys) ≤ 1)
      → Chain n next head (xs ++ j ∷ o ∷ ys) → Chain n next' head (xs ++ j ∷ ys)
  unfolding Chain times
  chain-over head o [] ys e d c =
      (c.0, c.1, c.2, rw e (framed (next o) ys (omega (arith, d j, one_same j)) c.3.3))
  chain-over head o (i ∷ xs) ys e d c =
      let q : next' i ≡ next i = kept i c.1
      (λ q. omega (arith, d j, one_same j, times-append j xs (j ∷ o ∷ ys), ap (λ x. one (eqb j x)) q)) in
      (c.0, c.1, c.2, rw q (chain-over (next i) o xs ys e (λ k. omega (arith, d k)) c.3))
