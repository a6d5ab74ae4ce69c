-- The sums of messages, added up from the first on; they are the sums in a box.
use Prim.Native.Nat.{ℕ, zero, suc, ◌+◌, ◌*◌, ◌-◌, ◌≤◌, ◌<◌}
use mathlib.Core.Path.{◌≡◌, refl, ap}
use mathlib.Core.List.{List}
use native.Mathlib.Numerals.{add-one}
use native.Mathlib.Omega.{arith}
use Rattle.rules.specs.Store.{sums_in}
use Rattle.layout.specs.Rows.{sum_of}
use Rattle.layout.specs.View.{messages}
use Rattle.layout.specs.Sums.{Amount, sums_from}

-- whatever bytes the messages have
pub sums-are : (w : List ℕ) (len : ℕ → ℕ) (text : List ℕ) (n i : ℕ)
    → sums_in (messages n len (sum_of w) text i) ≡ sums_from w n i
unfolding sums_in messages sums_from
sums-are w len text zero i = refl
sums-are w len text (suc n) i = ap (λ x. sum_of w i + x) (sums-are w len text n (suc i))

-- total is the sum of the first messages of n from slot i on, those before slot `from`
pub record Gathered (w : List ℕ) (n i from total : ℕ) : Type 0 where
  pub low : i ≤ from
  pub high : from ≤ i + n
  pub whole : total + sums_from w (i + n - from) from ≡ sums_from w n i
  pub small : total ≤ 4294967295 * (from - i)

module _ (w : List ℕ) (n i : ℕ) where
  first-sum : (left from : ℕ) → 1 ≤ left → sums_from w left from ≡ sum_of w from + sums_from w (left - 1) (from + 1)
  unfolding sums_from
  first-sum zero from h = absurd (omega arith)
  first-sum (suc left) from h = let e : suc left - 1 ≡ left = omega arith in rw (e, add-one from, sums_from)

  no-sums : (from : ℕ) → sums_from w 0 from ≡ 0
  unfolding sums_from
  no-sums from = refl

  pub gathered_none : Gathered w n i i 0
  gathered_none =
      let e : i + n - i ≡ n = omega arith in
      record { low = omega arith; high = omega arith; whole = rw e (omega arith); small = omega arith }

  pub gathered-more : (from total x : ℕ) → from < i + n → x ≡ sum_of w from → x ≤ 4294967295
      → Gathered w n i from total → Gathered w n i (from + 1) (total + x)
  gathered-more from total x more is least g =
      let e : i + n - (from + 1) ≡ i + n - from - 1 = omega arith in
      record {
        low = omega (arith, g.low);
        high = omega arith;
        whole = rw e (omega (arith, first-sum (i + n - from) from (omega arith), g.whole));
        small = omega (arith, g.low, g.small);
      }

  pub gathered-all : (from total : ℕ) → i + n ≤ from → n ≤ 255 → Gathered w n i from total
      → Amount (4294967295 * 255) (sums_from w n i) total
  gathered-all from total end few g =
      let e : i + n - from ≡ 0 = omega arith in
      record {
        is = omega (arith, g.whole, ap (λ k. sums_from w k from) e, no-sums from);
        small = omega (arith, g.low, g.high, g.small);
      }
