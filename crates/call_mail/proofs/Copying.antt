-- Cells copied: what stands in them after it, what does not change, and the library's copy inside a part of a slice.
use Prim.Native.Nat.{ℕ, ◌+◌, ◌-◌, ◌≤◌, ◌<◌}
use mathlib.Core.Path.{◌≡◌, sym, ap, ◌∙◌, fun_ext}
use mathlib.Core.Logic.{◌≢◌}
use mathlib.Core.List.{List, ◌++◌, append_assoc}
use native.Mathlib.Omega.{arith}
use lib.ListN.{length, get_or, take, drop, length-drop}
use lib.Seq.{paste, drop-drop, length-take-le}
use borrow.Rule.Slice.PartMut.{put_mid}
use Rattle.std.proofs.lemmas.List.{drop-take, take-take, drop-append-le, take-append-drop}
use Rattle.layout.specs.Rows.{field, region}
use Rattle.layout.proofs.Field.{within, field_in, field_out, region-cells}
use Rattle.call_steps.specs.Copies.{copied, Copied}
use Rattle.call_steps.proofs.Copying.{part-copied}
use Rattle.call_steps.proofs.Laid.{laid-length, laid-other, laid-at}

module _ (src : List ℕ) (from : ℕ) (dst : List ℕ) (to : ℕ) where
  pub length-copied : (n : ℕ) → length (copied n src from dst to) ≡ length dst
  unfolding copied
  length-copied n = laid-length (λ i. to + i) (λ i. get_or src (from + i) 0) dst n

  -- a cell that none is copied to
  pub copied-out : (n j : ℕ) → ((m : ℕ) → m < n → j ≢ to + m) → get_or (copied n src from dst to) j 0 ≡ get_or dst j 0
  unfolding copied
  copied-out n j h = laid-other (λ i. to + i) (λ i. get_or src (from + i) 0) dst n j h

  -- and one that is
  pub copied-in : (n m : ℕ) → to + n ≤ length dst → m < n
      → get_or (copied n src from dst to) (to + m) 0 ≡ get_or src (from + m) 0
  unfolding copied
  copied-in n m h p = laid-at (λ i. to + i) (λ i. get_or src (from + i) 0) dst n m p (λ j a b. omega arith) (omega arith)

  -- a slot of a row, a row and a region that none is copied to
  pub field-copied-at : (n k off i : ℕ) → ((m : ℕ) → 1 ≤ i → i ≤ k → m < n → off + i ≢ to + m)
      → field k off (copied n src from dst to) i ≡ field k off dst i
  field-copied-at n k off i h = within k i (field k off (copied n src from dst to) i ≡ field k off dst i)
      (λ p q. field_in k off (copied n src from dst to) i p q ∙ copied-out n (off + i) (λ m r. h m p q r)
      ∙ sym (field_in k off dst i p q))
      (λ g. field_out k off (copied n src from dst to) i g ∙ sym (field_out k off dst i g))

  pub field-copied : (n k off : ℕ) → ((i m : ℕ) → 1 ≤ i → i ≤ k → m < n → off + i ≢ to + m)
      → field k off (copied n src from dst to) ≡ field k off dst
  field-copied n k off h = fun_ext (λ i. field-copied-at n k off i (h i))

  pub region-copied : (n k off : ℕ) → ((i m : ℕ) → i < k → m < n → off + i ≢ to + m)
      → region k off (copied n src from dst to) ≡ region k off dst
  region-copied n k off h =
      region-cells k off (copied n src from dst to) dst (length-copied n)
      (λ i p. copied-out n (off + i) (λ m r. h i m p r))

-- a row whose slots from i on move down one place
pub field-shifted : (n k off : ℕ) (l : List ℕ) (i m : ℕ) → 1 ≤ i → i + n ≤ k → off + k < length l → m < n
    → field k off (copied n l (off + i + 1) l (off + i)) (i + m) ≡ field k off l (i + 1 + m)
field-shifted n k off l i m low high fits p =
    let here : off + (i + m) ≡ off + i + m = omega arith in
    let next : off + i + 1 + m ≡ off + (i + 1 + m) = omega arith in
    field_in k off (copied n l (off + i + 1) l (off + i)) (i + m) (omega arith) (omega arith)
    ∙ ap (λ j. get_or (copied n l (off + i + 1) l (off + i)) j 0) here
    ∙ copied-in l (off + i + 1) l (off + i) n m (omega arith) p
    ∙ ap (λ j. get_or l j 0) next
    ∙ sym (field_in k off l (i + 1 + m) (omega arith) (omega arith))

pub copied-length : {n : ℕ} {src : List ℕ} {from : ℕ} {dst : List ℕ} {to : ℕ} {dst' : List ℕ}
    → Copied n src from dst to dst' → length dst' ≡ length dst
copied-length {n} {src} {from} {dst} {to} c = ap length c.is ∙ length-copied src from dst to n

-- ---- the library's copy inside a part of a slice, down to the part's front

-- of a part T of by + n cells, the last n
module _ (T : List ℕ) (by n : ℕ) where
  pasted : paste T 0 (drop by T) n ≡ take n (drop by T) ++ drop n T
  pasted =
      let e : 0 + n ≡ n = omega arith in
      ap (λ m. take n (drop by T) ++ drop m T) e

-- the part is that from `at` to `end`
pub part-moved : (l part : List ℕ) (at end by top n : ℕ) → end ≡ at + (by + n) → top ≡ by + n → end ≤ length l
    → part ≡ paste (take (end - at) (drop at l)) 0 (drop by (take (end - at) (drop at l))) (top - by)
    → Copied n l (at + by) l at (put_mid at (end - at) l part)
part-moved l part at end by top n e t fits p =
    let X : List ℕ = drop at l in
    let T : List ℕ = take (by + n) X in
    let back : List ℕ = take n (drop by X) in
    let size : end - at ≡ by + n = omega arith in
    let count : top - by ≡ n = omega arith in
    let room : by + n ≤ length X = omega (arith, length-drop at l) in
    let long : length T ≡ by + n = length-take-le (by + n) X room in
    let source : take n (drop by T) ≡ back = ap (take n) (drop-take by n X) ∙ take-take n n (drop by X) (omega arith) in
    let rest : drop n T ++ drop (by + n) X ≡ drop n X =
    sym (drop-append-le n T (drop (by + n) X) (omega arith)) ∙ ap (drop n) (take-append-drop (by + n) X) in
    let is : part ≡ back ++ drop n T =
    p ∙ (λ d. paste (take (size d) X) 0 (drop by (take (size d) X)) (count d)) ∙ pasted T by n
    ∙ ap (λ x. x ++ drop n T) source in
    let q : n ≡ at + n - at = omega arith in
    let r : n ≡ at + by + n - (at + by) = omega arith in
    let c = part-copied l l back (at + by) at n (omega arith) (omega arith)
    (ap (take n) (drop-drop by at l) ∙ ap (λ m. take m (drop (at + by) l)) r) in
    record {
      is = (λ d. take at l ++ (is d ++ drop (size d) X))
          ∙ ap (λ x. take at l ++ x) (append_assoc back (drop n T) (drop (by + n) X))
          ∙ ap (λ x. take at l ++ (back ++ x)) (rest ∙ ap (λ m. drop m X) q)
          ∙ c.is;
    }
