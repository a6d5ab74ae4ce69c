-- Through a list of bills: the sums add up to the charge, the picks to the count.
use Prim.Native.Nat.{ℕ, ◌+◌}
use mathlib.Core.Path.{◌≡◌, ap}
use mathlib.Core.List.{List, [], ◌∷◌}
use native.Mathlib.Omega.{arith}
use borrow.Author.Tests.{eq-eqb, ne_eqb}
use Rattle.rules.specs.Code as Code
use Rattle.product_royalties.specs.declared.billed.Billed.{Billed}
use Rattle.product_royalties.specs.Charge.{charge}
use Rattle.product_royalties.specs.Bills.{done_bill, refused_bill}
use Rattle.product_royalties.specs.Theorems.{Event, Follow, last_count, accepted, sums, picks}
use Rattle.product_royalties.proofs.Charging.{charged}
use Rattle.product_royalties.proofs.Billing.{bills-by}

-- ---- one bill

module _ (f : Event → ℕ) (e : Event) (es : List Event) where
  with-done : e.billed.code ≡ Code.done → accepted f (e ∷ es) ≡ f e + accepted f es
  unfolding accepted
  with-done z = rw (eq-eqb e.billed.code Code.done z, accepted)

  with-refused : (e.billed.code ≡ Code.done → ⊥) → accepted f (e ∷ es) ≡ accepted f es
  unfolding accepted
  with-refused nz = rw (ne_eqb e.billed.code Code.done nz, accepted)

-- ---- a list

-- from count p on
pub record Stands (p : ℕ) (es : List Event) : Type 0 where
  pub sum : charge p + sums es ≡ charge (last_count p es)
  pub count : p + picks es ≡ last_count p es

pub stands : (p : ℕ) (es : List Event) → Follow p es → Stands p es
unfolding Follow last_count accepted done_bill refused_bill
stands p [] f = record { sum = omega arith; count = omega arith }
stands p (e ∷ es) f =
    let s = stands e.billed.count es f.1 in
    bills-by p e.picks e.billed
    (λ d.
    let code = ap (λ (r : Billed). r.code) d in
    let count = ap (λ (r : Billed). r.count) d in
    record {
      sum = omega (arith, with-done (λ x. x.billed.sum) e es code, ap (λ (r : Billed). r.sum) d, charged p e.picks, ap charge count, s.sum);
      count = omega (arith, with-done (λ x. x.picks) e es code, count, s.count);
    })
    (λ nz h. record {
      sum = omega (arith, with-refused (λ x. x.billed.sum) e es nz, ap charge h, s.sum);
      count = omega (arith, with-refused (λ x. x.picks) e es nz, h, s.count);
    })
    f.0
