-- Where a living capability stands: in the tree of its object, once, and in no other.
use Prim.Native.Nat.{ℕ, ◌≤◌}
use mathlib.Core.Path.{◌≡◌}
use mathlib.Core.Logic.{◌≢◌}
use mathlib.Core.List.{List}
use native.Mathlib.Omega.{arith}
use Rattle.rules.proofs.Tests.{by-eq}
use Rattle.layout.specs.Layout as Layout
use Rattle.layout.specs.Rows.{owner_of}
use Rattle.layout.specs.Shape.{times, count, Caps}
use Rattle.layout.proofs.Counts.{sum-some}
use Rattle.layout.proofs.Field.{field-low, field-high}
use Rattle.layout.proofs.Linking.{sum_one, sum-two}
use Rattle.layout.proofs.Shaped.{of_tree}

module _ (l : List ℕ) (c : Caps l) where
  -- a record of an object's tree stands there once
  pub stands-once : (o : ℕ) → 1 ≤ o → o ≤ 64 → (k : ℕ) → count k (c.tree o) ≤ 1
  stands-once o low high k = by-eq (count k (c.tree o)) 0
      (λ z. omega (arith, z))
      (λ nz.
      let s = of_tree l c k o low high (omega (arith, nz)) in
      omega (arith, c.once k s.low s.high, sum_one 64 (λ o. count k (c.tree o)) o low high))

  -- in that one alone
  pub stands-only : (o p : ℕ) → 1 ≤ o → o ≤ 64 → 1 ≤ p → p ≤ 64 → p ≢ o → (k : ℕ) → 1 ≤ count k (c.tree o)
      → count k (c.tree p) ≡ 0
  stands-only o p low high plow phigh ne k h =
      let s = of_tree l c k o low high h in
      omega (arith, h, c.once k s.low s.high, sum-two 64 (λ o. count k (c.tree o)) p o plow phigh low high ne)

  -- a living one is not free
  pub not_free : (k : ℕ) → owner_of l k ≢ 0 → times k c.free ≡ 0
  not_free k alive = by-eq (times k c.free) 0
      (λ z. z) (λ nz. absurd (alive (c.free-owner k (omega (arith, nz)))))

  -- and stands in the tree of its object
  pub stands : (k : ℕ) → owner_of l k ≢ 0 → 1 ≤ count k (c.tree (owner_of l k))
  stands k alive =
      let low = field-low 512 Layout.OWNER l k alive in
      let high = field-high 512 Layout.OWNER l k alive in
      let t = sum-some 64 (λ o. count k (c.tree o)) (omega (arith, c.once k low high, not_free k alive)) in
      let s = of_tree l c k t.0 t.1 t.2 t.3 in
      rw s.owner-is t.3
