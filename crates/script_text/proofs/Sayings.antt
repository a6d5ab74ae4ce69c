-- A line says one list of numbers, and one of 2,048 bytes says 1,024 at most.
use Prim.Native.Nat.{ℕ, suc, ◌+◌, ◌*◌, ◌/◌, ◌%◌, ◌≤◌, ◌<◌}
use mathlib.Core.Path.{◌≡◌, refl, sym, ap, ◌∙◌}
use mathlib.Core.List.{List, [], ◌∷◌, ◌++◌}
use native.Mathlib.Omega.{arith}
use lib.Dec.{ltb}
use lib.ListN.{length, get_or, length-append}
use borrow.Author.Tests.{ltb-true, ltb-false}
use Rattle.rules.proofs.Tests.{by_bool}
use Rattle.std.specs.Prelude.{Option, Some, None}
use Rattle.std.specs.Option.{unwrap_or}
use Rattle.script_text.specs.Numeral.{numeral, after, spaced, Says, computes}
use Rattle.script_text.specs.Scan.{Scan, found, scan, ReadIs, Means, good, bad, LineIs}
use Rattle.script_text.proofs.Numerals.{numeral-digit, numeral-tenth}
use Rattle.script_text.proofs.Scanning.{scan-numeral}
use Rattle.script_text.proofs.Reading.{scan-after}

-- ---- one list of numbers

abbrev Fit : List ℕ → Type 0
Fit ns = (k : ℕ) → get_or ns k 0 ≤ 4294967295

-- the first number and what stands after it
same_first : (n m : ℕ) (ns ms : List ℕ) → n ≤ 4294967295 → m ≤ 4294967295
    → numeral n ++ after ns ≡ numeral m ++ after ms → found n (after ns) ≡ found m (after ms)
same_first n m ns ms h g e =
    sym (scan-numeral n h (after ns) ∙ scan-after n ns) ∙ ap scan e ∙ scan-numeral m g (after ms) ∙ scan-after m ms

after_same : (ns ms : List ℕ) → Fit ns → Fit ms → after ns ≡ after ms → ns ≡ ms
unfolding after
after_same [] [] f g e = refl
after_same [] (m ∷ ms) f g e = absurd (omega (arith, ap length e))
after_same (n ∷ ns) [] f g e = absurd (omega (arith, ap length e))
after_same (n ∷ ns) (m ∷ ms) f g e =
    let same : found n (after ns) ≡ found m (after ms) = same_first n m ns ms (f 0) (g 0) (cc) in
    let others : ns ≡ ms = after_same ns ms (λ k. f (suc k)) (λ k. g (suc k)) (ap (λ (r : Scan). r.rest) same) in
    let one : n ≡ m = ap (λ (r : Scan). r.value) same in
    cc

pub says_same : (line ns ms : List ℕ) → Says line ns → Says line ms → ns ≡ ms
unfolding spaced
says_same line [] ms h g = absurd (omega (arith, h.some))
says_same line (n ∷ ns) [] h g = absurd (omega (arith, g.some))
says_same line (n ∷ ns) (m ∷ ms) h g =
    let same : found n (after ns) ≡ found m (after ms) =
    same_first n m ns ms (h.fits 0) (g.fits 0) (sym h.text ∙ g.text) in
    let others : ns ≡ ms =
    after_same ns ms (λ k. h.fits (suc k)) (λ k. g.fits (suc k)) (ap (λ (r : Scan). r.rest) same) in
    let one : n ≡ m = ap (λ (r : Scan). r.value) same in
    cc

-- ---- how many

numeral-some : (n : ℕ) → 1 ≤ length (numeral n)
numeral-some n = by_bool (ltb n 10)
    (λ e. omega (arith, ap length (numeral-digit n (ltb-true n 10 e))))
    (λ e. omega (arith, ap length (numeral-tenth n (ltb-false n 10 e)), length-append (numeral (n / 10)) ((48 + n % 10) ∷ [])))

after-some : (ns : List ℕ) → 2 * length ns ≤ length (after ns)
unfolding after
after-some [] = omega arith
after-some (n ∷ ns) = omega (arith, numeral-some n, after-some ns, length-append (numeral n) (after ns))

pub says-few : (line ns : List ℕ) → Says line ns → length line ≤ 2048 → length ns ≤ 1024
unfolding spaced
says-few line [] h few = omega arith
says-few line (n ∷ ns) h few =
    omega (arith, numeral-some n, after-some ns, length-append (numeral n) (after ns), ap length h.text)

-- ---- the numbers that a line has

pub line-long : (line out : List ℕ) → 2048 < length line → LineIs line out out 0
line-long line out h = record { count = omega arith; means = bad (λ short. absurd (omega arith)) }

-- with 1,024 cells a line that is not read is bad
pub line-read : (line out out' : List ℕ) (r : Option ℕ) → ReadIs line out out' r → length line ≤ 2048 → 1024 ≤ length out
    → LineIs line out out' (unwrap_or r 0)
line-read line out out' (Some n) h short room = record { count = h.count; means = good short h.says }
line-read line out out' None h short room = record {
  count = omega arith;
  means = bad (λ _ ns says. h ns says (omega (arith, says-few line ns says short)));
}

-- they are one list
pub means-same : (line ns ms : List ℕ) → Means line ns → Means line ms → ns ≡ ms
means-same line ns ms (good short h) (good _ g) = says_same line ns ms h g
means-same line ns ms (good short h) (bad g) = absurd (g short ns h)
means-same line ns ms (bad h) (good short g) = absurd (h short ms g)
means-same line ns ms (bad h) (bad g) = refl

-- ---- 01's first line

-- "1000 5 9"
example : spaced (1000 ∷ 5 ∷ 9 ∷ []) ≡ 49 ∷ 48 ∷ 48 ∷ 48 ∷ 32 ∷ 53 ∷ 32 ∷ 57 ∷ []
unfolding computes
example = refl
