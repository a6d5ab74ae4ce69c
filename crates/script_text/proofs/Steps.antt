-- What the code tests and where its loop stands, byte after byte.
use Prim.Native.Nat.{ℕ, suc, ◌+◌, ◌-◌, ◌*◌, ◌≤◌, ◌<◌}
use mathlib.Core.Path.{◌≡◌, refl, sym, ap, ◌∙◌, subst}
use mathlib.Core.Logic.{◌≢◌}
use mathlib.Core.Bool.{Bool, true, false, not, ◌&&◌}
use mathlib.Core.List.{List, [], ◌∷◌, ◌++◌}
use native.Mathlib.Omega.{arith}
use native.Mathlib.Numerals.{add-one}
use lib.Dec.{leb}
use lib.Arith.{lt_of_le-ne}
use lib.ListN.{length, get_or, take, drop, set, drop_of_length-le, length-set}
use lib.Seq.{drop-cons, drop-set-lt, drop-drop, take-suc-set, length-take-le}
use borrow.Author.Tests.{eq-eqb, ne_eqb, le-leb}
use Rattle.std.specs.Prelude.{Option, Some, None}
use Rattle.std.specs.Char.{is_ascii_digit}
use Rattle.script_text.specs.Scan.{extends, Scan, failed, found, scan_on, scan, NoDigit, Near, ScanOnIs, NumberAt, ReadIs}
use Rattle.script_text.specs.Numeral.{Says}
use Rattle.script_text.specs.declared.read.Number.{Number}
use Rattle.script_text.proofs.Scanning.{Digit, digit, extending, scan-space, scan-more, scan-stop, scan-end}
use Rattle.script_text.proofs.Scanning.{digit_is, scan-digit, scan-other, scan-nothing, scan-leads}
use Rattle.script_text.proofs.Reading.{Reading, reading-none, reading-more, reading-last, reading-bad, reading-full}

-- ---- tests

pub extends-none : (v b : ℕ) → v ≡ 0 → false ≡ extends v b
unfolding extends
extends-none v b e =
    ap (λ (t : Bool). not t && (is_ascii_digit b && leb (v * 10 + (b - 48)) 4294967295)) (sym (eq-eqb v 0 e))

pub extends-digit : (v b : ℕ) → v ≢ 0 → is_ascii_digit b ≡ true → leb (v * 10 + (b - 48)) 4294967295 ≡ extends v b
unfolding extends
extends-digit v b h e =
    ap (λ (t : Bool). t && leb (v * 10 + (b - 48)) 4294967295) (sym e)
    ∙ ap (λ (t : Bool). not t && (is_ascii_digit b && leb (v * 10 + (b - 48)) 4294967295)) (sym (ne_eqb v 0 h))

pub extends-other : (v b : ℕ) → v ≢ 0 → is_ascii_digit b ≡ false → false ≡ extends v b
unfolding extends
extends-other v b h e =
    ap (λ (t : Bool). t && leb (v * 10 + (b - 48)) 4294967295) (sym e)
    ∙ ap (λ (t : Bool). not t && (is_ascii_digit b && leb (v * 10 + (b - 48)) 4294967295)) (sym (ne_eqb v 0 h))

-- ---- the loop over digits

-- the scan from place `at` on has come to place i, and its digits say v
pub record On (line : List ℕ) (at first v i : ℕ) : Type 0 where
  pub same : scan_on first (drop at line) ≡ scan_on v (drop i line)
  pub within : i ≤ length line
  pub fits : v ≤ 4294967295

-- where it starts
pub on_none : (line : List ℕ) (at v : ℕ) → at ≤ length line → v ≤ 4294967295 → On line at v v at
on_none line at v h g = record { same = refl; within = h; fits = g }

module _ (line : List ℕ) (at first v i : ℕ) (on : On line at first v i) where
  next : i < length line → scan_on first (drop at line) ≡ scan_on v (get_or line i 0 ∷ drop (i + 1) line)
  next h = on.same ∙ ap (scan_on v) (drop-cons line i 0 h ∙ ap (λ (k : ℕ). get_or line i 0 ∷ drop k line) (sym (add-one i)))

  pub on-more : i < length line → extends v (get_or line i 0) ≡ true
      → On line at first (v * 10 + (get_or line i 0 - 48)) (i + 1)
  on-more h e = let x = extending v (get_or line i 0) e in record {
    same = next h ∙ scan-more v (get_or line i 0) (drop (i + 1) line) (λ z. omega (arith, z, x.digit.low)) e;
    within = omega (arith, h);
    fits = x.fits;
  }

  pub on-space : i < length line → get_or line i 0 ≡ 32
      → ScanOnIs line at first (Some (record { value = v; end = i }))
  on-space h e = record {
    is = next h ∙ scan-space v (get_or line i 0) (drop (i + 1) line) e
        ∙ ap (found v) (sym (drop-cons line i 0 h ∙ ap (λ (k : ℕ). get_or line i 0 ∷ drop k line) (sym (add-one i))));
    within = on.within;
  }

  pub on-stop : i < length line → get_or line i 0 ≢ 32 → extends v (get_or line i 0) ≡ false
      → ScanOnIs line at first None
  on-stop h n e = record {
    is = next h ∙ scan-stop v (get_or line i 0) (drop (i + 1) line) n e;
    within = tt;
  }

  pub on-end : length line ≤ i → ScanOnIs line at first (Some (record { value = v; end = length line }))
  on-end h = record {
    is = on.same ∙ ap (scan_on v) (drop_of_length-le line h) ∙ scan-end v
        ∙ ap (found v) (sym (drop_of_length-le line {i = length line} (omega arith)));
    within = omega arith;
  }

  -- what goes on from place i goes on from place `at`
  pub on-from : (r : Option Number) → ScanOnIs line i v r → ScanOnIs line at first r
  on-from r s = record { is = on.same ∙ s.is; within = s.within }

-- ---- after few digits

-- the scan from place `at` on has come to place i, and its digits say v, which is not 0 and at most m
pub record Few (line : List ℕ) (at first v i m : ℕ) : Type 0 where
  pub on : On line at first v i
  pub some : v ≢ 0
  pub few : v ≤ m

few-more : (line : List ℕ) (at first v i m : ℕ) → Few line at first v i m → m ≤ 99 → i < length line
    → is_ascii_digit (get_or line i 0) ≡ true → Few line at first (v * 10 + (get_or line i 0 - 48)) (i + 1) (m * 10 + 9)
few-more line at first v i m f small h e =
    let d : Digit (get_or line i 0) = digit (get_or line i 0) e in
    let fits : v * 10 + (get_or line i 0 - 48) ≤ 4294967295 = omega (arith, d.high, f.few) in
    record {
      on = on-more line at first v i f.on h
          (sym (extends-digit v (get_or line i 0) f.some e) ∙ le-leb (v * 10 + (get_or line i 0 - 48)) 4294967295 fits);
      some = λ z. f.some (omega (arith, z));
      few = omega (arith, d.high, f.few);
    }

pub near-second : (line : List ℕ) (at first : ℕ) → Near line at first → is_ascii_digit (get_or line at 0) ≡ true
    → Few line at first (first * 10 + (get_or line at 0 - 48)) (at + 1) 99
near-second line at first n e =
    few-more line at first first at 9
    (record {
      on = on_none line at first (omega (arith, n.within)) (omega (arith, n.digit));
      some = n.some;
      few = n.digit;
    })
    (omega arith) (omega (arith, n.within)) e

pub near-third : (line : List ℕ) (at first v : ℕ) → Near line at first → Few line at first v (at + 1) 99
    → is_ascii_digit (get_or line (at + 1) 0) ≡ true → Few line at first (v * 10 + (get_or line (at + 1) 0 - 48)) (at + 2) 999
near-third line at first v n f e =
    subst (λ (i : ℕ). Few line at first (v * 10 + (get_or line (at + 1) 0 - 48)) i 999) (omega arith)
    (few-more line at first v (at + 1) 99 f (omega arith) (omega (arith, n.within)) e)

-- where no digit stands
pub no-digit-space : (line : List ℕ) (at v : ℕ) → NoDigit line at v → get_or line at 0 ≡ 32
    → ScanOnIs line at v (Some (record { value = v; end = at }))
no-digit-space line at v n e = on-space line at v v at (on_none line at v (omega (arith, n.within)) n.fits) n.within e

pub no-digit-stop : (line : List ℕ) (at v : ℕ) → NoDigit line at v → get_or line at 0 ≢ 32
    → ScanOnIs line at v None
no-digit-stop line at v n e =
    on-stop line at v v at (on_none line at v (omega (arith, n.within)) n.fits) n.within e
    (sym (extends-other v (get_or line at 0) n.some n.other))

-- ---- after a first digit 0

-- the scan starts there
zero-on : (line : List ℕ) (at : ℕ) → at ≤ length line → On line at 0 0 at
zero-on line at h = on_none line at 0 h (omega arith)

pub zero-space : (line : List ℕ) (at : ℕ) → at < length line → get_or line at 0 ≡ 32
    → ScanOnIs line at 0 (Some (record { value = 0; end = at }))
zero-space line at h e = on-space line at 0 0 at (zero-on line at (omega arith)) h e

pub zero-stop : (line : List ℕ) (at : ℕ) → at < length line → get_or line at 0 ≢ 32
    → ScanOnIs line at 0 None
zero-stop line at h n =
    on-stop line at 0 0 at (zero-on line at (omega arith)) h n (sym (extends-none 0 (get_or line at 0) refl))

pub zero-end : (line : List ℕ) (at : ℕ) → at ≤ length line → length line ≤ at
    → ScanOnIs line at 0 (Some (record { value = 0; end = at }))
zero-end line at h g =
    subst (λ (n : ℕ). ScanOnIs line at 0 (Some (record { value = 0; end = n }))) (omega arith) (on-end line at 0 0 at (zero-on line at h) g)

-- ---- where a number has to start

pub number-digit : (line : List ℕ) (at : ℕ) (r : Option Number) → at < length line → is_ascii_digit (get_or line at 0) ≡ true
    → ScanOnIs line (at + 1) (get_or line at 0 - 48) r → NumberAt line at r
number-digit line at r h e on = record {
  is = ap scan (drop-cons line at 0 h) ∙ scan-digit (get_or line at 0) (drop (suc at) line) e
      ∙ ap (λ (k : ℕ). scan_on (get_or line at 0 - 48) (drop k line)) (sym (add-one at)) ∙ on.is;
  within = on.within;
}

pub number-zero : (line : List ℕ) (at : ℕ) (r : Option Number) → at < length line → get_or line at 0 ≡ 48 → ScanOnIs line (at + 1) 0 r
    → NumberAt line at r
number-zero line at r h e on =
    number-digit line at r h (ap is_ascii_digit e)
    (subst (λ (v : ℕ). ScanOnIs line (at + 1) v r) (sym (ap (λ (b : ℕ). b - 48) e)) on)

pub number-near : (line : List ℕ) (at : ℕ) (r : Option Number) → at < length line → 49 ≤ get_or line at 0 → get_or line at 0 ≤ 57
    → ScanOnIs line (at + 1) (get_or line at 0 - 48) r → NumberAt line at r
number-near line at r h low high on =
    number-digit line at r h (digit_is (get_or line at 0) (record { low = omega (arith, low); high = high })) on

-- nothing is found
none : (line : List ℕ) (at : ℕ) → scan (drop at line) ≡ failed
    → NumberAt line at None
none line at e = record { is = e; within = tt }

pub number-other : (line : List ℕ) (at : ℕ) → at < length line → is_ascii_digit (get_or line at 0) ≡ false
    → NumberAt line at None
number-other line at h e =
    none line at (ap scan (drop-cons line at 0 h) ∙ scan-other (get_or line at 0) (drop (suc at) line) e)

pub number_past : (line : List ℕ) (at : ℕ) → length line ≤ at
    → NumberAt line at None
number_past line at h = none line at (ap scan (drop_of_length-le line h) ∙ scan-nothing)

-- ---- the loop over numbers

-- the numbers before place `at` stand at the front of out, and the cells after them are as they were
pub record Filling (line out₀ : List ℕ) (out : List ℕ) (at count : ℕ) : Type 0 where
  pub reading : Reading line (drop at line) (take count out)
  pub size : length out ≡ length out₀
  pub within : count ≤ length out₀
  pub inside : at ≤ length line
  pub kept : drop count out ≡ drop count out₀

pub filling-none : (line out : List ℕ) → Filling line out out 0 0
filling-none line out = record { reading = reading-none line; size = refl; within = omega arith; inside = omega arith; kept = refl }

kept_more : (out₀ out : List ℕ) (count v : ℕ) → drop count out ≡ drop count out₀
    → drop (count + 1) (set out count v) ≡ drop (count + 1) out₀
kept_more out₀ out count v e =
    drop-set-lt (count + 1) out count v (omega arith)
    ∙ sym (drop-drop 1 count out) ∙ ap (drop 1) e ∙ drop-drop 1 count out₀

front-more : (out : List ℕ) (count v : ℕ) → count < length out
    → take (count + 1) (set out count v) ≡ take count out ++ (v ∷ [])
front-more out count v h = ap (λ (k : ℕ). take k (set out count v)) (add-one count) ∙ take-suc-set out count v h

module _ (line out₀ out : List ℕ) (at count : ℕ) (f : Filling line out₀ out at count) where
  module _ (n : Number) (r : NumberAt line at (Some n)) where
    pub filling-last : count < length out → n.end ≡ length line → ReadIs line out₀ (set out count n.value) (Some (count + 1))
    filling-last h end = record {
      count = omega (arith, f.size);
      kept = kept_more out₀ out count n.value f.kept;
      says = subst (Says line) (sym (front-more out count n.value h))
          (reading-last n.value f.reading
          (r.is ∙ ap (found n.value) (drop_of_length-le line {i = n.end} (omega (arith, end)))));
    }

    pub filling-more : count < length out → (n.end ≡ length line → ⊥)
        → Filling line out₀ (set out count n.value) (n.end + 1) (count + 1)
    filling-more h not_end =
        let inside : n.end < length line = lt_of_le-ne r.within not_end in
        let rest : drop n.end line ≡ get_or line n.end 0 ∷ drop (n.end + 1) line =
        drop-cons line n.end 0 inside ∙ ap (λ (k : ℕ). get_or line n.end 0 ∷ drop k line) (sym (add-one n.end)) in
        let scans : scan (drop at line) ≡ found n.value (get_or line n.end 0 ∷ drop (n.end + 1) line) =
        r.is ∙ ap (found n.value) rest in
        let space : get_or line n.end 0 ≡ 32 = (scan-leads _ _ _ scans).ends in
        record {
          reading = subst (Reading line (drop (n.end + 1) line)) (sym (front-more out count n.value h))
              (reading-more (drop (n.end + 1) line) n.value f.reading
              (scans ∙ ap (λ (b : ℕ). found n.value (b ∷ drop (n.end + 1) line)) space));
          size = length-set out count n.value ∙ f.size;
          within = omega (arith, f.size);
          inside = omega (arith, inside);
          kept = kept_more out₀ out count n.value f.kept;
        }

  pub filling-bad : NumberAt line at None → ReadIs line out₀ out None
  filling-bad r ns h few = reading-bad f.reading (ap (λ (s : Scan). s.ok) r.is) ns h

-- no cell is left
pub filling-full : (line out₀ out : List ℕ) (at count : ℕ) → Filling line out₀ out at count → length out ≤ count
    → ReadIs line out₀ out None
filling-full line out₀ out at count f h ns says few =
    omega (arith, reading-full f.reading ns says, length-take-le count out (omega (arith, f.within, f.size)), f.size)
