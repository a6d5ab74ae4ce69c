-- The chains of objects where one ends: it is out of the chain of living ones and in front of the free ones.
use Prim.Native.Nat.{ℕ, ◌+◌, ◌≤◌}
use mathlib.Core.Path.{◌≡◌, refl, sym, ap, ◌∙◌, subst}
use mathlib.Core.Logic.{◌≢◌}
use mathlib.Core.List.{List, ◌∷◌, ◌++◌}
use native.Mathlib.Omega.{arith}
use lib.Dec.{eqb}
use Rattle.rules.specs.Slots.{one, at}
use Rattle.rules.proofs.Tests.{by-eq}
use Rattle.rules.proofs.Slots.{at_here, at-else}
use Rattle.layout.specs.Shape.{Chain, times, ObjectChains}
use Rattle.layout.proofs.Counts.{one_same, one-other}
use Rattle.layout.proofs.Linking.{times-append, chain-low, chain-high, chain-frame, chain_head}
use Rattle.layout.proofs.Joining.{next-split, before-some, chain-over}

-- q is the record whose link leads to o, 0 if there is none
pub record Before (next : ℕ → ℕ) (o q : ℕ) : Type 0 where
  pub none : q ≡ 0 → (i : ℕ) → 1 ≤ i → i ≤ 64 → next i ≢ o
  pub low : q ≢ 0 → 1 ≤ q
  pub high : q ≤ 64
  pub some : q ≢ 0 → next q ≡ o

module _ (m next : ℕ → ℕ) (head free : ℕ) (s : ObjectChains m next head free)
    (o : ℕ) (low : 1 ≤ o) (high : o ≤ 64) (alive : m o ≢ 0) (q : ℕ) (B : Before next o q)
    (m' next' : ℕ → ℕ) (gone : m' o ≡ 0) (others : (i : ℕ) → i ≢ o → m' i ≡ m i)
    (here : next' o ≡ free) (over : q ≢ 0 → q ≢ o → next' q ≡ next o)
    (kept : (k : ℕ) → 1 ≤ k → k ≢ o → k ≢ q → next' k ≡ next k)
    (head' : ℕ) (head-yes : head ≡ o → head' ≡ next o) (head-not : head ≢ o → head' ≡ head) where
  not_free : times o s.free ≡ 0
  not_free = by-eq (times o s.free) 0 (λ z. z) (λ nz. absurd (alive (s.dead o (omega arith))))

  in-live : times o s.live ≡ 1
  in-live = omega (arith, s.once o low high, not_free)

  single : (k : ℕ) → times k s.live ≤ 1
  single k = by-eq (times k s.live) 0 (λ z. omega arith) (λ nz. omega (
    arith,
    s.once k (chain-low 64 next head s.live k s.live-chain (omega arith))
        (chain-high 64 next head s.live k s.live-chain (omega arith)),
  ))

  -- the one before it is not in a chain that it is not in
  apart : (h : ℕ) (xs : List ℕ) → Chain 64 next h xs → times o xs ≡ 0 → times q xs ≡ 0
  unfolding times
  apart h xs c z = by-eq (times q xs) 0 (λ e. e) (λ nz.
      let n : q ≢ 0 = λ e. omega (arith, chain-low 64 next h xs q c (omega arith)) in
      let e : next q ≡ o = B.some n in
      let t = next-split 64 next h xs q c (omega arith) (λ x. omega (arith, e)) in
      absurd (omega (
        arith,
        z,
        ap (λ x. times o x) t.2,
        times-append o t.0 (q ∷ next q ∷ t.1),
        ap (λ x. one (eqb o x)) e,
        one_same o,
      )))

  -- such a chain is as it was
  framed : (h : ℕ) (xs : List ℕ) → Chain 64 next h xs → times o xs ≡ 0 → Chain 64 next' h xs
  framed h xs c z = chain-frame 64 next next' h xs c (λ k n. kept k (chain-low 64 next h xs k c n)
      (λ e. omega (arith, z, ap (λ x. times x xs) e)) (λ e. omega (arith, apart h xs c z, ap (λ x. times x xs) e)))

  -- the living ones without it
  record Without : Type 0 where
    rest : List ℕ
    chain : Chain 64 next' head' rest
    counts : (k : ℕ) → times k rest + one (eqb k o) ≡ times k s.live

  first : head ≡ o → Without
  unfolding times
  first e =
      let t = chain_head 64 next head s.live s.live-chain (λ z. omega arith) in
      let is : s.live ≡ o ∷ t.0 = t.1 ∙ ap (λ x. x ∷ t.0) e in
      let z : times o t.0 ≡ 0 = omega (arith, in-live, ap (λ x. times o x) is, one_same o) in
      record {
        rest = t.0;
        chain = rw (head-yes e) (framed (next o) t.0 (subst (λ x. Chain 64 next (next x) t.0) e t.4) z);
        counts = λ k. omega (arith, ap (λ x. times k x) is);
      }

  -- q stands before it
  module _ (ys zs : List ℕ) (some : q ≢ 0) (split : s.live ≡ ys ++ q ∷ next q ∷ zs) where
    is : s.live ≡ ys ++ q ∷ o ∷ zs
    is = split ∙ ap (λ x. ys ++ q ∷ x ∷ zs) (B.some some)

    abbrev rest : List ℕ
    rest = ys ++ q ∷ zs

    all : (k : ℕ) → times k rest + one (eqb k o) ≡ times k s.live
    unfolding times
    all k = omega (arith, ap (times k) is, times-append k ys (q ∷ o ∷ zs), times-append k ys (q ∷ zs))

    out : times o rest ≡ 0
    out = omega (arith, all o, in-live, one_same o)

    differ : q ≢ o
    unfolding times
    differ e = omega (arith, out, times-append o ys (q ∷ zs), ap (λ y. one (eqb o y)) e, one_same o)

    abbrev skipping : ℕ → ℕ
    skipping = at next q (next o)

    skipped : Chain 64 skipping head rest
    skipped = chain-over 64 next skipping q (λ k _ n. at-else next q (next o) k n) head o ys zs
        (at_here next q (next o)) (λ k. omega (arith, single k, ap (times k) is))
        (subst (Chain 64 next head) is s.live-chain)

    rest-chain : Chain 64 next' head rest
    rest-chain = chain-frame 64 skipping next' head rest skipped (λ k n. by-eq k q
        (λ e. ap next' e ∙ over some differ ∙ sym (at_here next q (next o)) ∙ ap skipping (sym e))
        (λ ne. kept k (chain-low 64 skipping head rest k skipped n)
        (λ e. omega (arith, out, ap (λ x. times x rest) e)) ne
        ∙ sym (at-else next q (next o) k ne)))

    later-at : head ≢ o → Without
    later-at ne = record {
      rest = rest;
      chain = subst (λ x. Chain 64 next' x rest) (sym (head-not ne)) rest-chain;
      counts = all;
    }

  later : head ≢ o → Without
  later ne =
      let f = before-some 64 next head s.live o s.live-chain (omega (arith, in-live)) ne in
      let some : q ≢ 0 = λ z. B.none z f.0 (chain-low 64 next head s.live f.0 s.live-chain f.1)
      (chain-high 64 next head s.live f.0 s.live-chain f.1) f.2 in
      let e : next q ≡ o = B.some some in
      let away : times q s.free ≡ 0 = apart free s.free s.free-chain not_free in
      let t = next-split 64 next head s.live q s.live-chain
      (omega (arith, away, s.once q (B.low some) B.high)) (λ x. omega (arith, e)) in
      later-at t.0 t.1 some t.2 ne

  without : Without
  without = by-eq head o first later

  pub object-ended : ObjectChains m' next' head' o
  unfolding times Chain
  object-ended =
      let w = without in
      let none : times o w.rest ≡ 0 = omega (arith, w.counts o, in-live, one_same o) in
      record {
        live = w.rest;
        free = o ∷ s.free;
        live-chain = w.chain;
        free-chain = (refl, low, high, rw here (framed free s.free s.free-chain not_free));
        once = λ k p q. omega (arith, w.counts k, s.once k p q);
        alive = λ k n z.
            let ne : k ≢ o = λ e. omega (arith, none, ap (λ x. times x w.rest) e) in
            s.alive k (omega (arith, w.counts k)) (sym (others k ne) ∙ z);
        dead = λ k n. by-eq k o (λ e. ap m' e ∙ gone)
            (λ ne. others k ne ∙ s.dead k (omega (arith, one-other k o ne)));
      }
