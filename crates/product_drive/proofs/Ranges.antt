-- What the tests of the ranges say.
use Prim.Native.Nat.{ℕ, ◌-◌, ◌≤◌}
use mathlib.Core.Path.{◌≡◌, sym}
use native.Mathlib.Omega.{arith}
use Rattle.std.proofs.Common.{cond, is_le, Less, Equal, Greater}
use mathlib.Core.Bool.{true, ◌&&◌}
use lib.Dec.{leb, ltb, eqb}
use borrow.Author.Tests.{leb-true, le-leb, lt-leb, ltb-true, ltb-false, eqb-true, eqb-false}
use Rattle.rules.proofs.Tests.{by_bool, all2, all3}
use Rattle.product_drive.specs.declared.repeat.Repeat.{Repeat}
use Rattle.product_drive.specs.declared.repeat.Place.{Place}
use Rattle.product_drive.specs.Drive.{max_picks, max_counts, max_row, up_to, repeat_fits, place_fits, fits, Within}

-- what the library's `contains` computes of each end of a range
pub within-end : (a b : ℕ)
    → is_le (cond (ltb a b) Less (cond (eqb a b) Equal Greater)) ≡ leb a b
within-end a b = by_bool (ltb a b)
    (λ t. rw t (sym (le-leb a b (omega (arith, ltb-true a b t)))))
    (λ f. by_bool (eqb a b)
    (λ t. rw (f, t) (sym (le-leb a b (omega (arith, eqb-true a b t)))))
    (λ n. rw (f, n) (sym (lt-leb a b (omega (arith, ltb-false a b f, eqb-false a b n))))))

pub record InRange (p : Repeat) : Type 0 where
  pub some : 1 ≤ p.picks
  pub picks : p.picks ≤ max_picks
  pub counts : p.counts ≤ max_counts
  pub row_low : 1 ≤ p.row
  pub row-high : p.row ≤ max_row

pub record InPlace (p : Repeat) (d : Place) : Type 0 where
  pub low : 1 ≤ d.next
  pub high : d.next ≤ p.picks
  pub steps : d.steps ≡ up_to p (d.next - 1)

pub in-range : (p : Repeat) → repeat_fits p ≡ true → InRange p
unfolding repeat_fits
in-range p h =
    let w = all3 (leb 1 p.picks && leb p.picks max_picks && leb p.counts max_counts) (leb 1 p.row)
    (leb p.row max_row) h in
    let n = all3 (leb 1 p.picks) (leb p.picks max_picks) (leb p.counts max_counts) w.0 in
    record {
      some = leb-true 1 p.picks n.0;
      picks = leb-true p.picks max_picks n.1;
      counts = leb-true p.counts max_counts n.2;
      row_low = leb-true 1 p.row w.1;
      row-high = leb-true p.row max_row w.2;
    }

pub in_place : (p : Repeat) (d : Place) → place_fits p d ≡ true → InPlace p d
unfolding place_fits
in_place p d h =
    let t = all3 (leb 1 d.next) (leb d.next p.picks) (eqb d.steps (up_to p (d.next - 1))) h in
    record {
      low = leb-true 1 d.next t.0;
      high = leb-true d.next p.picks t.1;
      steps = eqb-true d.steps (up_to p (d.next - 1)) t.2;
    }

module _ (p : Repeat) (d : Place) (h : fits p d ≡ true) where
  pub repeat-fits : repeat_fits p ≡ true
  unfolding fits
  repeat-fits = (all2 (repeat_fits p) (place_fits p d) h).0

  pub ranges : InRange p
  ranges = in-range p repeat-fits

  pub placed : InPlace p d
  unfolding fits
  placed = in_place p d (all2 (repeat_fits p) (place_fits p d) h).1

  -- of pick i, the next
  pub at_next : Within p d.next
  at_next = record { some = ranges.some; picks = ranges.picks; counts = ranges.counts; high = placed.high }
