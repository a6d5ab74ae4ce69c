-- A field outside its slots, by which side of them.
use Prim.Native.Nat.{ℕ, ◌<◌}
use mathlib.Core.Path.{◌≡◌}
use mathlib.Core.List.{List}
use native.Mathlib.Omega.{arith}
use Rattle.layout.specs.Rows.{field}
use Rattle.layout.proofs.Field.{field_out}

module _ (n off : ℕ) (l : List ℕ) (i : ℕ) where
  pub at_zero : i ≡ 0 → field n off l i ≡ 0
  at_zero e = field_out n off l i (λ p q. omega arith)

  pub past-slots : n < i → field n off l i ≡ 0
  past-slots h = field_out n off l i (λ p q. omega arith)
