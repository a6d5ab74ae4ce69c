-- The first line of a part: what stands before its first byte 10.
use Prim.Native.Nat.{ℕ, zero, suc, ◌+◌, ◌-◌, ◌≤◌, ◌<◌}
use mathlib.Core.Path.{◌≡◌, sym, ap, ◌∙◌, subst}
use mathlib.Core.Bool.{true, false}
use mathlib.Core.List.{List, [], ◌∷◌}
use native.Mathlib.Omega.{arith}
use native.Mathlib.Nat.{sub-zero}
use lib.Dec.{eqb}
use lib.ListN.{length, get_or, take, drop, length-drop}
use lib.Seq.{length-take-le, take-nil, take-take, drop-drop}
use Rattle.memchr.specs.Find.{Nowhere, NoneBefore, Passes, is_byte}
use Rattle.rules.proofs.Tests.{by_bool, pick_yes, pick-not}
use Rattle.script_text.specs.Lines.{joined, lines_of, part, EndsLine}

-- ---- the first byte 10 of a list

-- a byte 10 stands at place k
abbrev Ten : List ℕ → ℕ → Type 0
Ten s k = eqb (get_or s k 0) 10 ≡ true

lines-here : (b : ℕ) (s : List ℕ) → eqb b 10 ≡ true → lines_of (b ∷ s) ≡ [] ∷ lines_of s
unfolding lines_of
lines-here b s e = pick_yes (eqb b 10) _ _ e

lines-later : (b : ℕ) (s : List ℕ) → eqb b 10 ≡ false → lines_of (b ∷ s) ≡ joined b (lines_of s)
unfolding lines_of
lines-later b s e = pick-not (eqb b 10) _ _ e

-- it ends the first line
lines-ended : (s : List ℕ) (i : ℕ) → ((k : ℕ) → k < i → Ten s k → ⊥) → Ten s i → i < length s
    → lines_of s ≡ take i s ∷ lines_of (drop (suc i) s)
unfolding joined
lines-ended [] i before at h = absurd (omega arith)
lines-ended (b ∷ s) zero before at h = lines-here b s at
lines-ended (b ∷ s) (suc i) before at h = by_bool (eqb b 10)
    (λ e. absurd (before 0 (omega arith) e))
    (λ e. lines-later b s e
    ∙ ap (joined b) (lines-ended s i (λ k low t. before (suc k) (omega arith) t) at (omega arith)))

-- where none stands, all is the last line
lines-last : (b : ℕ) (s : List ℕ) → ((k : ℕ) → k < length (b ∷ s) → Ten (b ∷ s) k → ⊥)
    → lines_of (b ∷ s) ≡ (b ∷ s) ∷ []
unfolding joined lines_of
lines-last b [] none = by_bool (eqb b 10)
    (λ e. absurd (none 0 (omega arith) e))
    (λ e. lines-later b [] e)
lines-last b (c ∷ s) none = by_bool (eqb b 10)
    (λ e. absurd (none 0 (omega arith) e))
    (λ e. lines-later b (c ∷ s) e
    ∙ ap (joined b) (lines-last c s (λ k low t. none (suc k) (omega arith) t)))

all-last : (s : List ℕ) → 1 ≤ length s → ((k : ℕ) → k < length s → Ten s k → ⊥) → lines_of s ≡ s ∷ []
all-last [] some none = absurd (omega arith)
all-last (b ∷ s) some none = lines-last b s none

-- ---- parts

drop-take : (f t : ℕ) (l : List ℕ) → drop f (take t l) ≡ take (t - f) (drop f l)
drop-take zero t l = ap (λ (k : ℕ). take k l) (sym (sub-zero t))
drop-take (suc f) zero l =
    let none : 0 ≡ 0 - suc f = omega arith in ap (λ (k : ℕ). take k (drop (suc f) l)) none
drop-take (suc f) (suc t) [] = sym (take-nil (suc t - suc f))
drop-take (suc f) (suc t) (x ∷ l) =
    let same : t - f ≡ suc t - suc f = omega arith in drop-take f t l ∙ ap (λ (k : ℕ). take k (drop f l)) same

module _ (l : List ℕ) (from to : ℕ) (h : from ≤ to) (g : to ≤ length l) where
  size : length (part from to l) ≡ to - from
  size = length-take-le (to - from) (drop from l) (omega (arith, length-drop from l))

  rest : (r : ℕ) → from ≤ r → drop (suc (r - from)) (part from to l) ≡ part (r + 1) to l
  rest r low =
      let next : from + suc (r - from) ≡ r + 1 = omega arith in
      ap (drop (suc (r - from))) (sym (drop-take from to l))
      ∙ drop-drop (suc (r - from)) from (take to l)
      ∙ ap (λ (k : ℕ). drop k (take to l)) next
      ∙ drop-take (r + 1) to l

  -- the search found place i of the part
  pub ends-found : (i r : ℕ) → r ≡ from + i → NoneBefore (Passes (is_byte 10) (part from to l)) 0 (length (part from to l)) i
      → Passes (is_byte 10) (part from to l) i → EndsLine l from to r
  ends-found i r is first at =
      let here : i ≡ r - from = omega (arith, is) in
      let low : from ≤ r = omega (arith, is) in
      record {
        low = low;
        high = omega (arith, is, first.high, size);
        ended = λ inside.
            lines-ended (part from to l) (r - from)
            (λ k before t. first.before k (omega arith) (omega (arith, here)) t)
            (subst (Ten (part from to l)) here at) (omega (arith, size))
            ∙ ap (λ (k : List ℕ). k ∷ lines_of (drop (suc (r - from)) (part from to l)))
            (take-take (r - from) (to - from) (drop from l) (omega arith))
            ∙ ap (λ (k : List ℕ). part from r l ∷ lines_of k) (rest r low);
        last = λ e some. absurd (omega (arith, is, first.high, size, e));
      }

  -- it found none
  pub ends-none : Nowhere (Passes (is_byte 10) (part from to l)) 0 (length (part from to l)) → EndsLine l from to to
  ends-none none = record {
    low = h;
    high = omega arith;
    ended = λ inside. absurd (omega arith);
    last = λ e some. all-last (part from to l) (omega (arith, size)) (λ k low t. none k (omega arith) low t);
  }
