-- A part of a slice copied into a part of another: stores one by one.
use Prim.Native.Nat.{ℕ, zero, suc, ◌+◌, ◌-◌, ◌≤◌, ◌<◌}
use mathlib.Core.Path.{◌≡◌, refl, sym, ap, ◌∙◌}
use mathlib.Core.List.{List, ◌++◌, append_assoc}
use native.Mathlib.Omega.{arith}
use lib.ListN.{length, get_or, set, take, drop, length-drop}
use lib.Seq.{paste, paste-zero, paste-suc, take_all, length-take-le, drop-drop, get_or-take, get_or-drop}
use Rattle.call_steps.specs.Copies.{laid, copied, Copied}

pub laid_same : (place place' value value' : ℕ → ℕ) (xs : List ℕ) (n : ℕ) → ((j : ℕ) → j < n → place j ≡ place' j)
    → ((j : ℕ) → j < n → value j ≡ value' j) → laid place value n xs ≡ laid place' value' n xs
unfolding laid
laid_same place place' value value' xs zero p v = refl
laid_same place place' value value' xs (suc n) p v =
    let rest = laid_same place place' value value' xs n (λ j h. p j (omega arith)) (λ j h. v j (omega arith)) in
    λ d. set (rest d) (p n (omega arith) d) (v n (omega arith) d)

-- the cells from `to` on become those of s
laid-paste : (d s : List ℕ) (to n : ℕ) → to + n ≤ length d → n ≤ length s
    → laid (λ j. to + j) (λ j. get_or s j 0) n d ≡ paste d to s n
unfolding laid
laid-paste d s to zero h k = paste-zero d to s
laid-paste d s to (suc n) h k =
    ap (λ l. set l (to + n) (get_or s n 0)) (laid-paste d s to n (omega arith) (omega arith))
    ∙ paste-suc d to s n 0 (omega arith) (omega arith)

module _ (src d : List ℕ) (from to n : ℕ) (room : from + n ≤ length src) (fits : to + n ≤ length d) where
  abbrev source : List ℕ
  source = take n (drop from src)

  source-length : length source ≡ n
  source-length = length-take-le n (drop from src) (omega (arith, length-drop from src))

  pasted-is : take to d ++ (source ++ drop n (drop to d)) ≡ laid (λ j. to + j) (λ j. get_or src (from + j) 0) n d
  pasted-is =
      ap (λ l. take to d ++ (l ++ drop n (drop to d))) (sym (take_all n source (omega (arith, source-length))))
      ∙ ap (λ l. take to d ++ (take n source ++ l)) (drop-drop n to d)
      ∙ sym (append_assoc (take to d) (take n source) (drop (to + n) d))
      ∙ sym (laid-paste d source to n fits (omega (arith, source-length)))
      ∙ laid_same (λ j. to + j) (λ j. to + j) (λ j. get_or source j 0) (λ j. get_or src (from + j) 0) d n
      (λ j h. refl) (λ j h. get_or-take n (drop from src) j 0 h ∙ get_or-drop from src j 0)

-- the parts lent are those from `from` to from + n and from `to` to to + n
pub part-copied : (src d back : List ℕ) (from to n : ℕ) → from + n ≤ length src → to + n ≤ length d
    → back ≡ take (from + n - from) (drop from src)
    → Copied n src from d to (take to d ++ (back ++ drop (to + n - to) (drop to d)))
unfolding copied
part-copied src d back from to n room fits e =
    let p : from + n - from ≡ n = omega arith in
    let q : to + n - to ≡ n = omega arith in
    record {
      is = rw q (ap (λ l. take to d ++ (l ++ drop n (drop to d))) (rw p at e)
          ∙ pasted-is src d from to n room fits);
    }
