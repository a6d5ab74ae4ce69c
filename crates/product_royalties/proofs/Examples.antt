-- The definitions on examples. No one adds up four thousand million picks: the thousandths are computed tier by tier.
use Prim.Native.Nat.{ℕ, ◌+◌, ◌-◌, ◌/◌}
use mathlib.Core.Path.{◌≡◌}
use mathlib.Core.Bool.{true, false}
use mathlib.Core.List.{map}
use native.Mathlib.Omega.{arith}
use lib.Dec.{leb}
use borrow.Author.Tests.{leb-true, leb-false}
use Rattle.rules.proofs.Tests.{pick-by}
use Rattle.product_royalties.specs.Charge.{first_picks, next_picks, credit, thousandths, charge, bill_for}
use Rattle.product_royalties.specs.Edges as Edges
use Rattle.product_royalties.specs.Edges.{edges, given}
use Rattle.product_royalties.proofs.Tiers.{in_first, in_next, in_last, first, next, last}

abbrev by_tier : ℕ → ℕ
by_tier p = elim (leb p first_picks) [ true ↦ in_first p | false ↦ elim (leb p next_picks) [ true ↦ in_next p | false ↦ in_last p ] ]

by-tier : (p : ℕ) → thousandths p ≡ by_tier p
by-tier p = pick-by (λ t. thousandths p ≡ t) (leb p first_picks) (in_first p) (elim (leb p next_picks) [ true ↦ in_next p | false ↦ in_last p ])
    (λ h. first p (leb-true p first_picks h))
    (λ l. pick-by (λ t. thousandths p ≡ t) (leb p next_picks) (in_next p) (in_last p)
    (λ h. next p (omega (arith, leb-false p first_picks l)) (leb-true p next_picks h))
    (λ m. last p (omega (arith, leb-false p next_picks m))))

bill-by-tier : (p n : ℕ) → bill_for p n ≡ by_tier (p + n) / credit - by_tier p / credit
unfolding charge bill_for
bill-by-tier p n = rw (by-tier (p + n), by-tier p)

pub edges-hold : map given edges ≡ edges
unfolding Edges.computes
edges-hold = simp bill-by-tier
