-- A line read number after number: what is read so far, and what the rest says.
use Prim.Native.Nat.{ℕ, zero, suc, ◌≤◌, ◌<◌}
use mathlib.Core.Path.{◌≡◌, refl, sym, ap, ◌∙◌, subst}
use mathlib.Core.Bool.{false, false≢true}
use mathlib.Core.List.{List, [], ◌∷◌, ◌++◌, append_assoc}
use native.Mathlib.Omega.{arith}
use lib.ListN.{length, get_or, length-append}
use Rattle.script_text.specs.Numeral.{numeral, after, spaced, Says}
use Rattle.script_text.specs.Scan.{Scan, found, scan_on, scan}
use Rattle.script_text.proofs.Scanning.{scan-numeral, scan-space, scan-end, Leads, scan-leads}

-- ---- a line says a number and the rest

after-some : (n : ℕ) (ns : List ℕ) → after (n ∷ ns) ≡ 32 ∷ spaced (n ∷ ns)
unfolding after spaced
after-some n ns = refl

fits-cons : (v : ℕ) (ns : List ℕ) → v ≤ 4294967295 → ((k : ℕ) → get_or ns k 0 ≤ 4294967295)
    → (k : ℕ) → get_or (v ∷ ns) k 0 ≤ 4294967295
fits-cons v ns h f zero = h
fits-cons v ns h f (suc k) = f k

says-one : (s : List ℕ) (v : ℕ) → Leads s v [] → Says s (v ∷ [])
unfolding after spaced
says-one s v l = record {
  text = l.text;
  some = omega arith;
  fits = fits-cons v [] l.fits (λ k. omega arith);
}

says-more : (s t : List ℕ) (v : ℕ) (ns : List ℕ) → Leads s v (32 ∷ t) → Says t ns → Says s (v ∷ ns)
unfolding spaced
says-more s t v [] l h = absurd (omega (arith, h.some))
says-more s t v (n ∷ ns) l h = record {
  text = l.text ∙ ap (λ (r : List ℕ). numeral v ++ 32 ∷ r) h.text ∙ ap (λ (r : List ℕ). numeral v ++ r) (sym (after-some n ns));
  some = omega arith;
  fits = fits-cons v (n ∷ ns) l.fits h.fits;
}

-- ---- and its scan finds that number

-- the first number of those that s says
record First (s ns : List ℕ) : Type 0 where
  n : ℕ
  ms : List ℕ
  is : ns ≡ n ∷ ms
  scans : scan s ≡ found n (after ms)
  fits : (k : ℕ) → get_or ms k 0 ≤ 4294967295

pub scan-after : (n : ℕ) (ms : List ℕ) → scan_on n (after ms) ≡ found n (after ms)
unfolding after
scan-after n [] = scan-end n
scan-after n (m ∷ ms) = scan-space n 32 (numeral m ++ after ms) refl

first : (s ns : List ℕ) → Says s ns → First s ns
unfolding spaced
first s [] h = absurd (omega (arith, h.some))
first s (n ∷ ms) h = record {
  n = n;
  ms = ms;
  is = refl;
  scans = ap scan h.text ∙ scan-numeral n (h.fits 0) (after ms) ∙ scan-after n ms;
  fits = λ k. h.fits (suc k);
}

-- a line whose scan fails says nothing
says-not : (s ns : List ℕ) → (scan s).ok ≡ false → Says s ns → ⊥
says-not s ns bad h = false≢true (sym bad ∙ ap (λ (r : Scan). r.ok) (first s ns h).scans)

-- what stands after a number and a space says the other numbers
record Others (t : List ℕ) (v : ℕ) (ns : List ℕ) : Type 0 where
  ms : List ℕ
  is : ns ≡ v ∷ ms
  says : Says t ms

record Tail (t ms : List ℕ) : Type 0 where
  some : 1 ≤ length ms
  text : t ≡ spaced ms

after_tail : (t ms : List ℕ) → after ms ≡ 32 ∷ t → Tail t ms
unfolding after
after_tail t [] e = absurd (omega (arith, ap length e))
after_tail t (m ∷ ms) e = record { some = omega arith; text = cc (after-some m ms) }

says-others : (s t : List ℕ) (v : ℕ) (ns : List ℕ) → scan s ≡ found v (32 ∷ t) → Says s ns → Others t v ns
says-others s t v ns e h =
    let f : First s ns = first s ns h in
    let same : found f.n (after f.ms) ≡ found v (32 ∷ t) = sym f.scans ∙ e in
    let tail : Tail t f.ms = after_tail t f.ms (ap (λ (r : Scan). r.rest) same) in
    record {
      ms = f.ms;
      is = f.is ∙ ap (λ (n : ℕ). n ∷ f.ms) (ap (λ (r : Scan). r.value) same);
      says = record { text = tail.text; some = tail.some; fits = f.fits };
    }

-- ---- so far

-- of line, ms are read, and s is left
pub record Reading (line s ms : List ℕ) : Type 0 where
  pub sound : (ns : List ℕ) → Says s ns → Says line (ms ++ ns)
  pub complete : (ns : List ℕ) → Says line ns → (rest : List ℕ) × ((ns ≡ ms ++ rest) × Says s rest)

pub reading-none : (line : List ℕ) → Reading line line []
reading-none line = record { sound = λ ns h. h; complete = λ ns h. (ns, (refl, h)) }

pub reading-more : {line s ms : List ℕ} (t : List ℕ) (v : ℕ) → Reading line s ms → scan s ≡ found v (32 ∷ t)
    → Reading line t (ms ++ (v ∷ []))
reading-more {line} {s} {ms} t v r e = record {
  sound = λ ns h. subst (Says line) (sym (append_assoc ms (v ∷ []) ns))
      (r.sound (v ∷ ns) (says-more s t v ns (scan-leads s v (32 ∷ t) e) h));
  complete = λ ns h.
      let c : (rest : List ℕ) × ((ns ≡ ms ++ rest) × Says s rest) = r.complete ns h in
      let o : Others t v c.0 = says-others s t v c.0 e c.1.1 in
      (o.ms, (c.1.0 ∙ ap (λ (l : List ℕ). ms ++ l) o.is ∙ sym (append_assoc ms (v ∷ []) o.ms), o.says));
}

-- the last number
pub reading-last : {line s ms : List ℕ} (v : ℕ) → Reading line s ms → scan s ≡ found v [] → Says line (ms ++ (v ∷ []))
reading-last {line} {s} {ms} v r e = r.sound (v ∷ []) (says-one s v (scan-leads s v [] e))

-- no number where one has to start
pub reading-bad : {line s ms : List ℕ} → Reading line s ms → (scan s).ok ≡ false → (ns : List ℕ) → Says line ns → ⊥
reading-bad {line} {s} {ms} r bad ns h = says-not s (r.complete ns h).0 bad (r.complete ns h).1.1

-- more numbers than those read
pub reading-full : {line s ms : List ℕ} → Reading line s ms → (ns : List ℕ) → Says line ns → length ms < length ns
reading-full {line} {s} {ms} r ns h =
    let c : (rest : List ℕ) × ((ns ≡ ms ++ rest) × Says s rest) = r.complete ns h in
    omega (arith, ap length c.1.0, length-append ms c.0, c.1.1.some)
