-- A record with no child taken out of its chain: the forest without it is sound by the links that are left.
use Prim.Native.Nat.{ℕ, ◌+◌, ◌≤◌}
use mathlib.Core.Path.{◌≡◌, refl, sym, ap, ◌∙◌}
use mathlib.Core.Logic.{◌≢◌, ◌⊎◌, inl, inr, ⊎_elim}
use mathlib.Core.Bool.{true, false}
use native.Mathlib.Omega.{arith}
use native.Mathlib.Decide.{ℕ_discrete}
use lib.Dec.{eqb}
use borrow.Author.Tests.{eq-eqb, ne_eqb}
use Rattle.rules.specs.Slots.{one}
use Rattle.layout.specs.Shape.{Forest, nil, node, count, Sound}
use Rattle.layout.proofs.Counts.{one_same, one-other}
use Rattle.layout.proofs.Linking.{apart_in, sound-low, sound-frame}

-- ---- the forest without n

unfoldable pub without : ℕ → Forest → Forest
without n nil = nil
without n (node j K R) = elim (eqb j n) [ true ↦ R | false ↦ node j (without n K) (without n R) ]

without-here : (n j : ℕ) (K R : Forest) → j ≡ n → without n (node j K R) ≡ R
unfolding without
without-here n j K R e = rw (eq-eqb j n e, without)

pub without-else : (n j : ℕ) (K R : Forest) → j ≢ n → without n (node j K R) ≡ node j (without n K) (without n R)
unfolding without
without-else n j K R ne = rw (ne_eqb j n ne, without)

-- where n does not stand nothing is taken out
pub without-none : (n : ℕ) (F : Forest) → count n F ≡ 0 → without n F ≡ F
unfolding count without
without-none n nil z = refl
without-none n (node j K R) z =
    without-else n j K R (λ e. omega (arith, z, one_same j, ap (λ i. one (eqb i j)) e))
    ∙ rw (without-none n K (omega arith), without-none n R (omega arith))

abbrev pub Distinct : Forest → Type 0
Distinct F = (k : ℕ) → count k F ≤ 1

-- ---- the links after it, where n has the parent p, the previous sibling q and the next sibling s

pub record Unlinks (owner above first next back owner' above' first' next' back' : ℕ → ℕ) (n p q s : ℕ) : Type 0 where
  pub owner-kept : (k : ℕ) → k ≢ n → owner' k ≡ owner k
  pub above_kept : (k : ℕ) → above' k ≡ above k
  pub first-kept : (k : ℕ) → (k ≡ p → q ≡ 0 → ⊥) → first' k ≡ first k
  pub first-new : q ≡ 0 → first' p ≡ s
  pub next-kept : (k : ℕ) → k ≢ n → (k ≡ q → q ≢ 0 → ⊥) → next' k ≡ next k
  pub next-new : q ≢ 0 → q ≢ n → next' q ≡ s
  pub back-kept : (k : ℕ) → 1 ≤ k → k ≢ s → back' k ≡ back k
  pub back-new : s ≢ 0 → back' s ≡ q

-- the record that a chain starts with once n is gone
abbrev Skips : ℕ → ℕ → ℕ → ℕ → Type 0
Skips n s h g = ((h ≡ n) × (g ≡ s)) ⊎ ((h ≢ n) × (g ≡ h))

module _ (owner above first next back owner' above' first' next' back' : ℕ → ℕ) (n p q s : ℕ)
    (w : Unlinks owner above first next back owner' above' first' next' back' n p q s)
    (low : 1 ≤ n) (pe : above n ≡ p) (qe : back n ≡ q) (se : next n ≡ s) (fe : first n ≡ 0)
    (first-is : q ≡ 0 → first p ≡ n) (next-is : q ≢ 0 → next q ≡ n) (prev-is : s ≢ 0 → back s ≡ n) (o : ℕ) where
  abbrev Was : ℕ → ℕ → ℕ → Forest → Type 0
  Was = Sound owner above first next back o

  abbrev Is : ℕ → ℕ → ℕ → Forest → Type 0
  Is = Sound owner' above' first' next' back' o

  head_of : (a b h : ℕ) (F : Forest) → Was a b h F → 1 ≤ h → (above h ≡ a) × (back h ≡ b)
  unfolding Sound
  head_of a b h nil r lo = absurd (omega (arith, r))
  head_of a b h (node j K R) r lo = rw r.0 (r.1.parent_is, r.1.prev-is)

  untouched : (a b h : ℕ) (F : Forest) → Was a b h F
      → count n F ≡ 0 → count p F ≡ 0 → count q F ≡ 0 → count s F ≡ 0 → Is a b h F
  untouched a b h F r zn zp zq zs =
      sound-frame owner above first next back owner' above' first' next' back' o a b h F r (λ k c. record {
        owner-same = w.owner-kept k (apart_in k n F c zn);
        above_same = w.above_kept k;
        first-same = w.first-kept k (λ e _. apart_in k p F c zp e);
        next-same = w.next-kept k (apart_in k n F c zn) (λ e _. apart_in k q F c zq e);
        back-same = w.back-kept k (sound-low owner above first next back o a b h F k r c) (apart_in k s F c zs);
      })

  -- the chain after n now comes after q
  closed : (R : Forest) → Was p n s R → count n R ≡ 0 → count p R ≡ 0 → count q R ≡ 0 → Distinct R → Is p q s R
  unfolding Sound count
  closed nil r zn zp zq d = r
  closed (node j K R) r zn zp zq d =
      let c : 1 ≤ count j (node j K R) = omega (arith, one_same j) in
      let e : s ≡ j = r.0 in
      let jn : j ≢ n = apart_in j n (node j K R) c zn in
      let jp : j ≢ p = apart_in j p (node j K R) c zp in
      let jq : j ≢ q = apart_in j q (node j K R) c zq in
      let z_k : count s K ≡ 0 = rw e (omega (arith, d j, one_same j)) in
      let z_r : count s R ≡ 0 = rw e (omega (arith, d j, one_same j)) in (
        e,
        record {
          low = r.1.low;
          high = r.1.high;
          owner-is = w.owner-kept j jn ∙ r.1.owner-is;
          parent_is = w.above_kept j ∙ r.1.parent_is;
          prev-is = ap back' (sym e) ∙ w.back-new (λ z. omega (arith, z, e, r.1.low));
        },
        rw (w.first-kept j (λ x _. jp x))
            (untouched j 0 (first j) K r.2 (omega arith) (omega arith) (omega arith) z_k),
        rw (w.next-kept j jn (λ x _. jq x))
            (untouched p j (next j) R r.3 (omega arith) (omega arith) (omega arith) z_r),
      )

  -- where a link of j named n it now names s
  first-skips : (j : ℕ) (K : Forest) → Was j 0 (first j) K → Skips n s (first j) (first' j)
  first-skips j K r = go (ℕ_discrete (first j) n)
    where
      go : Dec (first j ≡ n) → Skips n s (first j) (first' j)
      go (yes e) =
          let t = head_of j 0 (first j) K r (omega (arith, e)) in
          let pj : p ≡ j = sym pe ∙ ap above (sym e) ∙ t.0 in
          let qz : q ≡ 0 = sym qe ∙ ap back (sym e) ∙ t.1 in
          inl (e, ap first' (sym pj) ∙ w.first-new qz)
      go (no ne) = inr (ne, w.first-kept j (λ e z. ne (ap first e ∙ first-is z)))

  next-skips : (a j : ℕ) (R : Forest) → 1 ≤ j → j ≢ n → Was a j (next j) R → Skips n s (next j) (next' j)
  next-skips a j R lo jn r = go (ℕ_discrete (next j) n)
    where
      go : Dec (next j ≡ n) → Skips n s (next j) (next' j)
      go (yes e) =
          let t = head_of a j (next j) R r (omega (arith, e)) in
          let qj : q ≡ j = sym qe ∙ ap back (sym e) ∙ t.1 in
          inl (e, ap next' (sym qj) ∙ w.next-new (λ z. omega arith) (λ z. jn (sym qj ∙ z)))
      go (no ne) = inr (ne, w.next-kept j jn (λ e z. ne (ap next e ∙ next-is z)))

  pub without-sound : (a b h g : ℕ) (F : Forest) → Skips n s h g → b ≢ n → Was a b h F
      → count a F ≡ 0 → count b F ≡ 0 → Distinct F → Is a b g (without n F)
  unfolding Sound count without
  without-sound a b h g nil sk bn r za zb d = ⊎_elim (λ t. absurd (omega (arith, r, t.0))) (λ t. t.1 ∙ r) sk
  without-sound a b h g (node j K R) sk bn r za zb d =
      go (ℕ_discrete j n)
      (without-sound j 0 (first j) (first' j) K (first-skips j K r.2) (λ e. omega arith) r.2
      (omega (arith, d j, one_same j)) (none-zero (count 0 K) refl) (λ k. omega (arith, d k)))
      (λ jn. without-sound a j (next j) (next' j) R (next-skips a j R r.1.low jn r.3) jn r.3
      (omega arith) (omega (arith, d j, one_same j)) (λ k. omega (arith, d k)))
    where
      none-zero : (m : ℕ) → count 0 K ≡ m → count 0 K ≡ 0
      none-zero m e = zero_or (ℕ_discrete (count 0 K) 0)
        where
          zero_or : Dec (count 0 K ≡ 0) → count 0 K ≡ 0
          zero_or (yes z) = z
          zero_or (no nz) = absurd (omega (
            arith,
            sound-low owner above first next back o j 0 (first j) K 0 r.2 (omega arith),
          ))

      -- the one after n is not j, which comes after b
      js : j ≡ s → b ≡ n
      js e = sym r.1.prev-is ∙ ap back e ∙ prev-is (λ z. omega (arith, z, e, r.1.low))

      gone : j ≡ n → Is a b g R
      gone e =
          let pa : p ≡ a = sym pe ∙ ap above (sym e) ∙ r.1.parent_is in
          let qb : q ≡ b = sym qe ∙ ap back (sym e) ∙ r.1.prev-is in
          let gs : g ≡ s = ⊎_elim (λ t. t.1) (λ t. absurd (t.0 (r.0 ∙ e))) sk in
          let js : next j ≡ s = ap next e ∙ se in
          let rest : Was p n s R = rw (pa, ← js, ← e) r.3 in
          rw (gs, ← pa, ← qb) (closed R rest (rw (← e) (omega (arith, d j, one_same j)))
          (rw pa (omega arith)) (rw qb (omega arith)) (λ k. omega (arith, d k)))

      go : Dec (j ≡ n) → Is j 0 (first' j) (without n K) → (j ≢ n → Is a j (next' j) (without n R))
          → Is a b g (without n (node j K R))
      go (yes e) in-K in-R = rw (without-here n j K R e) (gone e)
      go (no ne) in-K in-R = rw (without-else n j K R ne) (
        ⊎_elim (λ t. absurd (ne (sym r.0 ∙ t.0))) (λ t. t.1 ∙ r.0) sk,
        record {
          low = r.1.low;
          high = r.1.high;
          owner-is = w.owner-kept j ne ∙ r.1.owner-is;
          parent_is = w.above_kept j ∙ r.1.parent_is;
          prev-is = w.back-kept j r.1.low (λ e. bn (js e)) ∙ r.1.prev-is;
        },
        in-K,
        in-R ne,
      )

  -- ---- one record less

  no_kids : (a b h : ℕ) (F : Forest) → h ≡ 0 → Was a b h F → F ≡ nil
  unfolding Sound
  no_kids a b h nil e r = refl
  no_kids a b h (node j K R) e r = absurd (omega (arith, r.0, r.1.low))

  pub without-count : (k a b h : ℕ) (F : Forest) → Was a b h F → count n F ≡ 1
      → count k (without n F) + one (eqb k n) ≡ count k F
  unfolding Sound count without
  without-count k a b h nil r c = absurd (omega arith)
  without-count k a b h (node j K R) r c =
      go (ℕ_discrete j n) (ℕ_discrete (count n K) 0)
      (without-count k j 0 (first j) K r.2) (without-count k a j (next j) R r.3)
    where
      leaf : j ≡ n → count k K ≡ 0
      leaf e = ap (count k) (no_kids j 0 (first j) K (ap first e ∙ fe) r.2)

      go : Dec (j ≡ n) → Dec (count n K ≡ 0)
          → (count n K ≡ 1 → count k (without n K) + one (eqb k n) ≡ count k K)
          → (count n R ≡ 1 → count k (without n R) + one (eqb k n) ≡ count k R)
          → count k (without n (node j K R)) + one (eqb k n) ≡ count k (node j K R)
      go (yes e) d in-K in-R = rw (without-here n j K R e) (omega (arith, leaf e, ap (λ i. one (eqb k i)) e))
      go (no ne) (yes z) in-K in-R = rw (without-else n j K R ne, without-none n K z)
          (omega (arith, in-R (omega (arith, c, one-other n j (λ e. ne (sym e))))))
      go (no ne) (no nz) in-K in-R = rw (without-else n j K R ne, without-none n R (omega arith))
          (omega (arith, in-K (omega arith)))
