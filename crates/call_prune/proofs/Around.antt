-- What a sound forest says of each record that stands in it: its neighbours are slots of its object, and name it back.
use Prim.Native.Nat.{ℕ, ◌≤◌}
use mathlib.Core.Path.{◌≡◌, refl}
use mathlib.Core.Logic.{◌≢◌}
use native.Mathlib.Omega.{arith}
use native.Mathlib.Decide.{ℕ_discrete}
use Rattle.layout.specs.Shape.{Forest, nil, node, count, Sound}
use Rattle.layout.proofs.Counts.{one-other}

module _ (owner above first next back : ℕ → ℕ) (o : ℕ) where
  -- x is no slot, or one of the object's
  pub record Near (x : ℕ) : Type 0 where
    pub near-high : x ≤ 512
    pub near-owner : x ≢ 0 → owner x ≡ o

  -- n is a capability of the object, in its place
  pub record Around (n : ℕ) : Type 0 where
    pub low : 1 ≤ n
    pub high : n ≤ 512
    pub owner-is : owner n ≡ o
    pub parent-near : Near (above n)
    pub prev-near : Near (back n)
    pub next-near : Near (next n)
    pub first-near : Near (first n)
    -- its parent has a first child, which it is where it has no previous sibling
    pub parent-first : above n ≢ 0 → first (above n) ≢ 0
    pub first-is : above n ≢ 0 → back n ≡ 0 → first (above n) ≡ n
    pub next-is : back n ≢ 0 → next (back n) ≡ n
    pub prev-is : next n ≢ 0 → back (next n) ≡ n
    pub child-is : first n ≢ 0 → above (first n) ≡ n

  abbrev Chained : ℕ → ℕ → ℕ → Forest → Type 0
  Chained = Sound owner above first next back o

  none-near : Near 0
  none-near = record { near-high = omega arith; near-owner = λ nz. absurd (nz refl) }

  -- what a chain says of its head
  record Heads (p q h : ℕ) : Type 0 where
    near : Near h
    parent_is : h ≢ 0 → above h ≡ p
    back_is : h ≢ 0 → back h ≡ q

  heads : (p q h : ℕ) (F : Forest) → Chained p q h F → Heads p q h
  unfolding Sound
  heads p q h nil s = rw s (record {
    near = none-near;
    parent_is = λ nz. absurd (nz refl);
    back_is = λ nz. absurd (nz refl);
  })
  heads p q h (node j K R) s = rw s.0 (record {
    near = record { near-high = s.1.high; near-owner = λ _. s.1.owner-is };
    parent_is = λ _. s.1.parent_is;
    back_is = λ _. s.1.prev-is;
  })

  -- a chain that is not empty has a head
  head-some : (p q h : ℕ) (F : Forest) (k : ℕ) → Chained p q h F → 1 ≤ count k F → h ≢ 0
  unfolding Sound count
  head-some p q h nil k s c = absurd (omega arith)
  head-some p q h (node j K R) k s c = λ z. omega (arith, s.0, s.1.low)

  -- what is known where the chain below p and after q starts at h
  record Starts (p q h : ℕ) : Type 0 where
    parent-near : Near p
    prev-near : Near q
    parent-first : p ≢ 0 → first p ≢ 0
    first-is : p ≢ 0 → q ≡ 0 → first p ≡ h
    next-is : q ≢ 0 → next q ≡ h

  here : (p q j : ℕ) (K R : Forest) → Starts p q j → Chained p q j (node j K R) → Around j
  unfolding Sound
  here p q j K R t s =
      let in_k = heads j 0 (first j) K s.2 in
      let in_r = heads p j (next j) R s.3 in
      record {
        low = s.1.low;
        high = s.1.high;
        owner-is = s.1.owner-is;
        parent-near = rw s.1.parent_is t.parent-near;
        prev-near = rw s.1.prev-is t.prev-near;
        next-near = in_r.near;
        first-near = in_k.near;
        parent-first = rw s.1.parent_is t.parent-first;
        first-is = rw (s.1.parent_is, s.1.prev-is) t.first-is;
        next-is = rw s.1.prev-is t.next-is;
        prev-is = in_r.back_is;
        child-is = in_k.parent_is;
      }

  around-in : (p q h : ℕ) (F : Forest) → Starts p q h → Chained p q h F → (n : ℕ) → 1 ≤ count n F → Around n
  unfolding Sound count
  around-in p q h nil t s n c = absurd (omega arith)
  around-in p q h (node j K R) t s n c =
      go (ℕ_discrete n j) (ℕ_discrete (count n K) 0)
      (λ k. around-in j 0 (first j) K (starts-K k) s.2 n k)
      (around-in p j (next j) R starts-R s.3 n)
    where
      t' : Starts p q j
      t' = rw s.0 at t

      s' : Chained p q j (node j K R)
      s' = (refl, s.1, s.2, s.3)

      near-j : Near j
      near-j = record { near-high = s.1.high; near-owner = λ _. s.1.owner-is }

      starts-K : 1 ≤ count n K → Starts j 0 (first j)
      starts-K k = record {
        parent-near = near-j;
        prev-near = none-near;
        parent-first = λ _. head-some j 0 (first j) K n s.2 k;
        first-is = λ _ _. refl;
        next-is = λ nz. absurd (nz refl);
      }

      starts-R : Starts p j (next j)
      starts-R = record {
        parent-near = t.parent-near;
        prev-near = near-j;
        parent-first = t.parent-first;
        first-is = λ _ z. absurd (omega (arith, z, s.1.low));
        next-is = λ _. refl;
      }

      go : Dec (n ≡ j) → Dec (count n K ≡ 0) → (1 ≤ count n K → Around n) → (1 ≤ count n R → Around n) → Around n
      go (yes e) d in-K in-R = rw e (here p q j K R t' s')
      go (no ne) (yes z) in-K in-R = in-R (omega (arith, one-other n j ne))
      go (no ne) (no nz) in-K in-R = in-K (omega arith)

  -- of a whole tree, from its master on
  pub around : (h : ℕ) (F : Forest) → Chained 0 0 h F → (n : ℕ) → 1 ≤ count n F → Around n
  around h F = around-in 0 0 h F (record {
    parent-near = none-near;
    prev-near = none-near;
    parent-first = λ nz. absurd (nz refl);
    first-is = λ nz. absurd (nz refl);
    next-is = λ nz. absurd (nz refl);
  })
