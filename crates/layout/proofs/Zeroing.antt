-- Zeros stored in every cell of a slice, from the first cell on: the loop's state, and its end.
use Prim.Native.Nat.{ℕ, ◌+◌, ◌≤◌, ◌<◌}
use mathlib.Core.Path.{◌≡◌, refl, ◌∙◌}
use mathlib.Core.List.{List, ◌++◌, append-nil}
use native.Mathlib.Omega.{arith}
use borrow.Author.Fill.{fill_more}
use lib.ListN.{length, set, drop, replicate, length-set, drop_of_length-le}

-- s is l with zeros in the cells below i
pub record Zeroed (l s : List ℕ) (i : ℕ) : Type 0 where
  pub high : i ≤ length l
  pub size : length s ≡ length l
  pub is : s ≡ replicate i 0 ++ drop i l

pub zeroed-none : (l : List ℕ) → Zeroed l l 0
zeroed-none l = record { high = omega arith; size = refl; is = refl }

pub zeroed-more : {l s : List ℕ} {i : ℕ} → Zeroed l s i → i < length s → Zeroed l (set s i 0) (i + 1)
zeroed-more {l} {s} {i} z h =
    let size : length s ≡ length l = z.size in
    record {
      high = omega arith;
      size = length-set s i 0 ∙ size;
      is = rw z.is (fill_more i 0 l (omega arith));
    }

pub zeroed-all : {l s : List ℕ} {i : ℕ} → Zeroed l s i → length s ≤ i → s ≡ replicate (length l) 0
zeroed-all {l} {s} {i} z h =
    let size : length s ≡ length l = z.size in
    let high : i ≤ length l = z.high in
    let e : i ≡ length l = omega arith in
    z.is ∙ rw (drop_of_length-le l {i = i} (omega arith), append-nil, e)
