-- A scan finds a number exactly where one stands, and so a line is read exactly where it says numbers.
use Prim.Native.Nat.{ℕ, ◌+◌, ◌-◌, ◌*◌, ◌≤◌, ◌<◌}
use mathlib.Core.Path.{◌≡◌, refl, sym, ap, ◌∙◌, subst}
use mathlib.Core.Logic.{◌≢◌}
use mathlib.Core.Bool.{true, false, not, ◌&&◌, false≢true}
use mathlib.Core.List.{List, [], ◌∷◌, ◌++◌, append_assoc}
use native.Mathlib.Omega.{arith}
use lib.Dec.{eqb, leb}
use borrow.Author.Tests.{leb-true, le-leb, eqb-true, eqb-false, eq-eqb, ne_eqb}
use Rattle.rules.proofs.Tests.{by_bool, pick_yes, pick-not, both_true, all2, not-is-true}
use Rattle.std.specs.Char.{is_ascii_digit}
use Rattle.script_text.specs.Numeral.{numeral}
use Rattle.script_text.specs.Scan.{extends, Scan, failed, found, scan_on, scan}
use Rattle.script_text.proofs.Numerals.{numeral-digit, numeral-more, numeral-by}

-- ---- digits

pub record Digit (b : ℕ) : Type 0 where
  pub low : 48 ≤ b
  pub high : b ≤ 57

pub digit : (b : ℕ) → is_ascii_digit b ≡ true → Digit b
digit b e = let f = all2 (leb 48 b) (leb b 57) e in
    record { low = leb-true _ _ f.0; high = leb-true _ _ f.1 }

pub digit_is : (b : ℕ) → Digit b → is_ascii_digit b ≡ true
digit_is b d = both_true (leb 48 b) (leb b 57) (le-leb _ _ d.low) (le-leb _ _ d.high)

pub record Extends (v b : ℕ) : Type 0 where
  pub some : v ≢ 0
  pub digit : Digit b
  pub fits : v * 10 + (b - 48) ≤ 4294967295

pub extending : (v b : ℕ) → extends v b ≡ true → Extends v b
unfolding extends
extending v b e =
    let f = all2 (not (eqb v 0)) (is_ascii_digit b && leb (v * 10 + (b - 48)) 4294967295) e in
    let g = all2 (is_ascii_digit b) (leb (v * 10 + (b - 48)) 4294967295) f.1 in
    record {
      some = eqb-false v 0 (not-is-true (eqb v 0) f.0);
      digit = digit b g.0;
      fits = leb-true _ _ g.1;
    }

does-extend : (v b : ℕ) → Extends v b → extends v b ≡ true
unfolding extends
does-extend v b x =
    both_true (not (eqb v 0)) (is_ascii_digit b && leb (v * 10 + (b - 48)) 4294967295)
    (ap not (ne_eqb v 0 x.some))
    (both_true (is_ascii_digit b) (leb (v * 10 + (b - 48)) 4294967295) (digit_is b x.digit) (le-leb _ _ x.fits))

-- ---- a scan, byte after byte

pub scan-space : (v b : ℕ) (s : List ℕ) → b ≡ 32 → scan_on v (b ∷ s) ≡ found v (b ∷ s)
unfolding scan_on
scan-space v b s e = pick_yes (eqb b 32) _ _ (eq-eqb b 32 e)

pub scan-more : (v b : ℕ) (s : List ℕ) → b ≢ 32 → extends v b ≡ true
    → scan_on v (b ∷ s) ≡ scan_on (v * 10 + (b - 48)) s
unfolding scan_on
scan-more v b s h e = pick-not (eqb b 32) _ _ (ne_eqb b 32 h) ∙ pick_yes (extends v b) _ _ e

pub scan-stop : (v b : ℕ) (s : List ℕ) → b ≢ 32 → extends v b ≡ false → scan_on v (b ∷ s) ≡ failed
unfolding scan_on
scan-stop v b s h e = pick-not (eqb b 32) _ _ (ne_eqb b 32 h) ∙ pick-not (extends v b) _ _ e

pub scan-end : (v : ℕ) → scan_on v [] ≡ found v []
unfolding scan_on
scan-end v = refl

pub scan-digit : (b : ℕ) (s : List ℕ) → is_ascii_digit b ≡ true → scan (b ∷ s) ≡ scan_on (b - 48) s
unfolding scan
scan-digit b s e = pick_yes (is_ascii_digit b) _ _ e

pub scan-other : (b : ℕ) (s : List ℕ) → is_ascii_digit b ≡ false → scan (b ∷ s) ≡ failed
unfolding scan
scan-other b s e = pick-not (is_ascii_digit b) _ _ e

pub scan-nothing : scan [] ≡ failed
unfolding scan
scan-nothing = refl

-- ---- a scan of a number finds it

pub scan-numeral : (n : ℕ) → n ≤ 4294967295 → (s : List ℕ) → scan (numeral n ++ s) ≡ scan_on n s
scan-numeral = numeral-by (λ n. n ≤ 4294967295 → (s : List ℕ) → scan (numeral n ++ s) ≡ scan_on n s) one more
  where
    one : (d : ℕ) → d < 10 → d ≤ 4294967295 → (s : List ℕ) → scan (numeral d ++ s) ≡ scan_on d s
    one d h _ s =
        ap (λ (l : List ℕ). scan (l ++ s)) (numeral-digit d h)
        ∙ scan-digit (48 + d) s (digit_is (48 + d) (record { low = omega arith; high = omega arith }))
        ∙ ap (λ (n : ℕ). scan_on n s) (omega arith)

    more : (v d : ℕ) → v ≢ 0 → d < 10 → (v ≤ 4294967295 → (s : List ℕ) → scan (numeral v ++ s) ≡ scan_on v s)
        → v * 10 + d ≤ 4294967295 → (s : List ℕ) → scan (numeral (v * 10 + d) ++ s) ≡ scan_on (v * 10 + d) s
    more v d nz h before fits s =
        let same : v * 10 + (48 + d - 48) ≡ v * 10 + d = omega arith in
        ap (λ (l : List ℕ). scan (l ++ s)) (numeral-more v d nz h)
        ∙ ap scan (append_assoc (numeral v) ((48 + d) ∷ []) s)
        ∙ before (omega arith) ((48 + d) ∷ s)
        ∙ scan-more v (48 + d) s (λ e. omega (arith, e))
        (does-extend v (48 + d)
        (record {
          some = nz;
          digit = record { low = omega arith; high = omega arith };
          fits = omega (arith, same);
        }))
        ∙ ap (λ (n : ℕ). scan_on n s) same

-- ---- what a scan finds is a number

-- nothing, or a space
abbrev pub Ends : List ℕ → Type 0
Ends [] = Unit {0}
Ends (b ∷ s) = b ≡ 32

pub record Leads (s : List ℕ) (v : ℕ) (rest : List ℕ) : Type 0 where
  pub text : s ≡ numeral v ++ rest
  pub fits : v ≤ 4294967295
  pub ends : Ends rest

abbrev Good : List ℕ → Scan → Type 0
Good s r = r.ok ≡ true → Leads s r.value r.rest

scan-on-good : (s : List ℕ) (v : ℕ) → v ≤ 4294967295 → Good (numeral v ++ s) (scan_on v s)
scan-on-good [] v h = subst (Good (numeral v ++ [])) (sym (scan-end v)) (λ _. record { text = refl; fits = h; ends = tt })
scan-on-good (b ∷ s) v h = by_bool (eqb b 32)
    (λ e. let space : b ≡ 32 = eqb-true b 32 e in
    subst (Good (numeral v ++ b ∷ s)) (sym (scan-space v b s space))
    (λ _. record { text = refl; fits = h; ends = space }))
    (λ e. by_bool (extends v b)
    (λ x. let on : Extends v b = extending v b x in
    let back : 48 + (b - 48) ≡ b = omega (arith, on.digit.low) in
    let text : numeral (v * 10 + (b - 48)) ++ s ≡ numeral v ++ b ∷ s =
    ap (λ (l : List ℕ). l ++ s)
    (numeral-more v (b - 48) on.some (omega (arith, on.digit.high))
    ∙ ap (λ (k : ℕ). numeral v ++ (k ∷ [])) back)
    ∙ append_assoc (numeral v) (b ∷ []) s in
    subst (Good (numeral v ++ b ∷ s)) (sym (scan-more v b s (eqb-false b 32 e) x))
    (subst (λ (t : List ℕ). Good t (scan_on (v * 10 + (b - 48)) s)) text
    (scan-on-good s (v * 10 + (b - 48)) on.fits)))
    (λ x. subst (Good (numeral v ++ b ∷ s)) (sym (scan-stop v b s (eqb-false b 32 e) x))
    (λ f. absurd (false≢true f))))

scan_good : (s : List ℕ) → Good s (scan s)
scan_good [] = subst (Good []) (sym scan-nothing) (λ f. absurd (false≢true f))
scan_good (b ∷ s) = by_bool (is_ascii_digit b)
    (λ e. let d : Digit b = digit b e in
    let back : 48 + (b - 48) ≡ b = omega (arith, d.low) in
    let text : numeral (b - 48) ++ s ≡ b ∷ s =
    ap (λ (l : List ℕ). l ++ s) (numeral-digit (b - 48) (omega (arith, d.high)) ∙ ap (λ (k : ℕ). k ∷ []) back) in
    subst (Good (b ∷ s)) (sym (scan-digit b s e))
    (subst (λ (t : List ℕ). Good t (scan_on (b - 48) s)) text
    (scan-on-good s (b - 48) (omega (arith, d.high)))))
    (λ e. subst (Good (b ∷ s)) (sym (scan-other b s e)) (λ f. absurd (false≢true f)))

pub scan-leads : (s : List ℕ) (v : ℕ) (rest : List ℕ) → scan s ≡ found v rest → Leads s v rest
scan-leads s v rest e = subst (Good s) e (scan_good s) refl
