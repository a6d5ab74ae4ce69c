-- Numbers that are bytes, and the lines that a call asks.
use Prim.Native.Nat.{ℕ, zero, suc, ◌+◌, ◌-◌, ◌≤◌, ◌<◌}
use mathlib.Core.Path.{◌≡◌, refl, sym, ap, ap₂, ◌∙◌}
use mathlib.Core.Logic.{◌≢◌}
use mathlib.Core.Bool.{Bool, true, false, not, ◌&&◌, false≢true}
use mathlib.Core.List.{List, [], ◌∷◌}
use native.Mathlib.Omega.{arith}
use native.Mathlib.Numerals.{add-one}
use lib.Dec.{leb, ltb, eqb}
use Rattle.std.proofs.Common.{cond, is_le, Less, Equal, Greater}
use lib.ListN.{length, get_or, drop, length-drop, drop_of_length-le}
use lib.Seq.{drop-cons, get_or-drop}
use borrow.Author.Tests.{lt-ltb, le-ltb, le-leb, lt-leb, ltb-true, ltb-false, leb-true, eqb-true, eqb-false}
use Rattle.rules.specs.Slots.{any}
use Rattle.rules.specs.Rights.{op}
use Rattle.rules.specs.Fields.{text, place}
use Rattle.rules.specs.Script.{nth, are_bytes, is_call}
use Rattle.rules.proofs.Tests.{by_bool, pick_yes, pick-not, all2}
use Rattle.script_lines.proofs.Calls.{fits_not, before-bytes}
use Rattle.script_lines.specs.Lists.{BytesFrom, LineAsks}

bytes-cons : (b : ℕ) (l : List ℕ) → b ≤ 255 → are_bytes (b ∷ l) ≡ are_bytes l
unfolding are_bytes any
bytes-cons b l h = ap not (pick-not (ltb 255 b) _ _ (le-ltb 255 b h))

bytes-above : (b : ℕ) (l : List ℕ) → 255 < b → are_bytes (b ∷ l) ≡ false
unfolding are_bytes any
bytes-above b l h = ap not (pick_yes (ltb 255 b) _ _ (lt-ltb 255 b h))

bytes-none : are_bytes [] ≡ true
unfolding are_bytes any
bytes-none = refl

-- ---- from place i on

next : (l : List ℕ) (i : ℕ) → i < length l → drop i l ≡ get_or l i 0 ∷ drop (i + 1) l
next l i h = drop-cons l i 0 h ∙ ap (λ (k : ℕ). get_or l i 0 ∷ drop k l) (sym (add-one i))

pub bytes-more : (l : List ℕ) (i : ℕ) → i < length l → get_or l i 0 ≤ 255 → are_bytes (drop i l) ≡ are_bytes (drop (i + 1) l)
bytes-more l i h low = ap are_bytes (next l i h) ∙ bytes-cons (get_or l i 0) (drop (i + 1) l) low

pub bytes-stop : (l : List ℕ) (i : ℕ) → i < length l → 255 < get_or l i 0 → are_bytes (drop i l) ≡ false
bytes-stop l i h high = ap are_bytes (next l i h) ∙ bytes-above (get_or l i 0) (drop (i + 1) l) high

pub bytes-end : (l : List ℕ) (i : ℕ) → length l ≤ i → are_bytes (drop i l) ≡ true
bytes-end l i h = ap are_bytes (drop_of_length-le l h) ∙ bytes-none

-- ---- the test of a call's number

-- what the library's `contains` computes of each end of a range
within-end : (a b : ℕ) → is_le (cond (ltb a b) Less (cond (eqb a b) Equal Greater)) ≡ leb a b
within-end a b = by_bool (ltb a b)
    (λ t. rw t (sym (le-leb a b (omega (arith, ltb-true a b t)))))
    (λ f. by_bool (eqb a b)
    (λ t. rw (f, t) (sym (le-leb a b (omega (arith, eqb-true a b t)))))
    (λ n. rw (f, n) (sym (lt-leb a b (omega (arith, ltb-false a b f, eqb-false a b n))))))

pub within-ends : (a b n : ℕ) → (is_le (cond (ltb a n) Less (cond (eqb a n) Equal Greater))
    && is_le (cond (ltb n b) Less (cond (eqb n b) Equal Greater)))
    ≡ (leb a n && leb n b)
within-ends a b n = ap₂ ◌&&◌ (within-end a n) (within-end n b)

-- ---- after so many numbers

pub ends-in : (from n : ℕ) (b : Bool) → from ≤ n → b ≡ (leb from n && b)
ends-in from n b h = ap (λ (t : Bool). t && b) (sym (le-leb from n h))

pub ends-early : (from n : ℕ) (b : Bool) → n < from → false ≡ (leb from n && b)
ends-early from n b h = ap (λ (t : Bool). t && b) (sym (lt-leb from n h))

-- ---- each of them

pub bytes-at : (l : List ℕ) (k : ℕ) → are_bytes l ≡ true → k < length l → get_or l k 0 ≤ 255
bytes-at [] k e h = absurd (omega arith)
bytes-at (b ∷ l) zero e h = by_bool (ltb 255 b)
    (λ t. absurd (false≢true (sym (bytes-above b l (ltb-true 255 b t)) ∙ e)))
    (λ f. ltb-false 255 b f)
bytes-at (b ∷ l) (suc k) e h = by_bool (ltb 255 b)
    (λ t. absurd (false≢true (sym (bytes-above b l (ltb-true 255 b t)) ∙ e)))
    (λ f. bytes-at l k (sym (bytes-cons b l (ltb-false 255 b f)) ∙ e) (omega arith))

pub bytes-from : (l : List ℕ) (from i : ℕ) → are_bytes (drop from l) ≡ true → from ≤ i → i < length l → get_or l i 0 ≤ 255
bytes-from l from i e low h =
    let same : get_or (drop from l) (i - from) 0 ≡ get_or l i 0 =
    get_or-drop from l (i - from) 0 ∙ ap (λ (k : ℕ). get_or l k 0) (whole from i low) in
    omega (arith, same, bytes-at (drop from l) (i - from) e (omega (arith, length-drop from l)))
  where
    whole : (f i : ℕ) → f ≤ i → f + (i - f) ≡ i
    whole f i h = omega arith

-- ---- a line that goes on with bytes

pub line-bytes : (l out : List ℕ) (a : ℕ) → LineAsks l out → a ≡ place (op (nth l 0)) text → a ≢ 0 → BytesFrom l a out
line-bytes l out a asks e h =
    let some : is_call (nth l 0) ≡ true = by_bool (is_call (nth l 0)) (λ t. t)
    (λ z. absurd (false≢true (sym (fits_not (op (nth l 0)) l z) ∙ asks.fits))) in
    let f = all2 (leb a (length l)) (are_bytes (drop a l))
    (ap (λ (k : ℕ). leb k (length l) && are_bytes (drop k l)) e
    ∙ before-bytes (op (nth l 0)) l some (λ z. h (e ∙ z)) ∙ asks.fits) in
    record { bytes = f.1; low = leb-true a (length l) f.0; room = asks.room }
