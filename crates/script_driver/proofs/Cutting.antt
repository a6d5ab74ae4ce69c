-- A line that has not ended, and what is held of it.
use Prim.Native.Nat.{ℕ, zero, suc, ◌≤◌, ◌<◌}
use mathlib.Core.Path.{◌≡◌, refl, sym, ap, ◌∙◌, subst}
use mathlib.Core.Logic.{◌≢◌}
use mathlib.Core.List.{List, [], ◌∷◌, ◌++◌, append-nil}
use native.Mathlib.Omega.{arith}
use lib.Dec.{eqb, leb}
use lib.ListN.{length, take, drop, length-take}
use lib.Seq.{take_all, length-take-le}
use borrow.Author.Tests.{ne_eqb, leb-true, leb-false}
use Rattle.rules.proofs.Tests.{by_bool, by-eq, pick_yes, pick-not}
use Rattle.script_text.specs.Lines.{longest, joined, lines_of}
use Rattle.script_text.specs.Scan.{Means, good, bad}
use Rattle.script_driver.specs.Turns.{HELD, cut}

-- ---- no byte 10

pub data Plain : List ℕ → Type 0 where
  empty : Plain []
  byte : {b : ℕ} {l : List ℕ} → b ≢ 10 → Plain l → Plain (b ∷ l)

pub plain_more : {l : List ℕ} {b : ℕ} → Plain l → b ≢ 10 → Plain (l ++ b ∷ [])
plain_more empty h = byte h empty
plain_more (byte g p) h = byte g (plain_more p h)

lines-later : (b : ℕ) (s : List ℕ) → b ≢ 10 → lines_of (b ∷ s) ≡ joined b (lines_of s)
unfolding lines_of
lines-later b s h = pick-not (eqb b 10) _ _ (ne_eqb b 10 h)

lines-here : (s : List ℕ) → lines_of (10 ∷ s) ≡ [] ∷ lines_of s
unfolding lines_of
lines-here s = refl

-- it is the first line, where a byte 10 stands after it
pub lines-ended : {l : List ℕ} (s : List ℕ) → Plain l → lines_of (l ++ 10 ∷ s) ≡ l ∷ lines_of s
unfolding joined
lines-ended s empty = lines-here s
lines-ended s (byte {b = b} {l = l} h p) = lines-later b (l ++ 10 ∷ s) h ∙ ap (joined b) (lines-ended s p)

-- and the last one, where nothing does; nothing is no line
pub lines_none : lines_of [] ≡ []
unfolding lines_of
lines_none = refl

pub lines-last : {b : ℕ} {l : List ℕ} → Plain (b ∷ l) → lines_of (b ∷ l) ≡ (b ∷ l) ∷ []
unfolding joined
lines-last (byte {b = b} h empty) = lines-later b [] h ∙ ap (joined b) lines_none
lines-last (byte {b = b} h (byte {b = c} {l = l} g p)) = lines-later b (c ∷ l) h ∙ ap (joined b) (lines-last (byte g p))

-- ---- what is held

take_more : (n : ℕ) (p q : List ℕ) → take n (take n p ++ q) ≡ take n (p ++ q)
take_more zero p q = refl
take_more (suc n) [] q = refl
take_more (suc n) (x ∷ p) q = ap (λ (l : List ℕ). x ∷ l) (take_more n p q)

pub cut-more : (p q : List ℕ) → cut (cut p ++ q) ≡ cut (p ++ q)
unfolding cut
cut-more p q = take_more HELD p q

pub cut-none : cut [] ≡ []
unfolding cut
cut-none = refl

pub cut-length : (p : List ℕ) → length (cut p) ≤ HELD
unfolding cut
cut-length p = omega (arith, length-take HELD p)

short-is : (p : List ℕ) → length p ≤ longest → cut p ≡ p
unfolding cut
short-is p h = take_all HELD p (omega arith)

long-is : (p : List ℕ) → longest < length p → length (cut p) ≡ HELD
unfolding cut
long-is p h = length-take-le HELD p (omega arith)

long-means : (p q ns : List ℕ) → longest < length p → length q ≡ HELD → Means q ns → Means p ns
long-means p q ns h e (good short says) = absurd (omega arith)
long-means p q ns h e (bad none) = bad (λ short. absurd (omega arith))

-- the line has the numbers that what is held of it has
pub cut-means : (p ns : List ℕ) → Means (cut p) ns → Means p ns
cut-means p ns h = by_bool (leb (length p) longest)
    (λ e. subst (λ (l : List ℕ). Means l ns) (short-is p (leb-true (length p) longest e)) h)
    (λ e.
    let long : longest < length p = leb-false (length p) longest e in
    long-means p (cut p) ns long (long-is p long) h)

short-means : (p q ns : List ℕ) → longest < length q → length p ≡ HELD → Means q ns → Means p ns
short-means p q ns h e (good short says) = absurd (omega arith)
short-means p q ns h e (bad none) = bad (λ short. absurd (omega arith))

-- and the other way round, so that a line that lies whole in a window is played where it lies
pub means-cut : (p ns : List ℕ) → Means p ns → Means (cut p) ns
means-cut p ns h = by_bool (leb (length p) longest)
    (λ e. subst (λ (l : List ℕ). Means l ns) (sym (short-is p (leb-true (length p) longest e))) h)
    (λ e.
    let long : longest < length p = leb-false (length p) longest e in
    short-means (cut p) p ns long (long-is p long) h)

pub cut_twice : (p : List ℕ) → cut p ≡ cut (cut p)
cut_twice p = sym (ap cut (sym (append-nil (cut p))) ∙ cut-more p [] ∙ ap cut (append-nil p))

-- ---- lines in a window

joined-some : (b : ℕ) (ls : List (List ℕ)) → 1 ≤ length (joined b ls)
unfolding joined
joined-some b [] = omega arith
joined-some b (l ∷ ls) = omega arith

-- nothing alone has no line
some-line : (s : List ℕ) → 1 ≤ length s → 1 ≤ length (lines_of s)
unfolding lines_of
some-line [] h = absurd (omega arith)
some-line (b ∷ s) h = by_bool (eqb b 10)
    (λ e. let z : lines_of (b ∷ s) ≡ [] ∷ lines_of s = pick_yes (eqb b 10) _ _ e in omega (arith, ap length z))
    (λ e.
    let z : lines_of (b ∷ s) ≡ joined b (lines_of s) = pick-not (eqb b 10) _ _ e in
    omega (arith, ap length z, joined-some b (lines_of s)))

first-length : List (List ℕ) → ℕ
first-length [] = 0
first-length (l ∷ ls) = length l

joined-first : (b : ℕ) (ls : List (List ℕ)) → 1 ≤ first-length (joined b ls)
unfolding joined first-length
joined-first b [] = omega arith
joined-first b (l ∷ ls) = omega arith

joined_same : (b : ℕ) (ls zs : List (List ℕ)) (y : List ℕ) → 1 ≤ length ls → joined b ls ≡ (b ∷ y) ∷ zs → ls ≡ y ∷ zs
unfolding joined
joined_same b [] zs y h e = absurd (omega arith)
joined_same b (x ∷ xs) zs y h e = cc

-- a first line that ends before the window does, and what stands after it
pub record Ended (s : List ℕ) (i : ℕ) : Type 0 where
  pub plain : Plain (take i s)
  pub split : s ≡ take i s ++ 10 ∷ drop (suc i) s

pub first_ended : (s : List ℕ) (i : ℕ) → i < length s → lines_of s ≡ take i s ∷ lines_of (drop (suc i) s) → Ended s i
unfolding first-length
first_ended [] i h e = absurd (omega arith)
first_ended (b ∷ s) zero h e = by-eq b 10
    (λ z. record { plain = empty; split = ap (λ (x : ℕ). x ∷ s) z })
    (λ ne. absurd (omega (arith, joined-first b (lines_of s), ap first-length (sym (lines-later b s ne) ∙ e))))
first_ended (b ∷ s) (suc i) h e = by-eq b 10
    (λ z. absurd (omega (arith, ap first-length (sym e ∙ ap (λ (x : ℕ). lines_of (x ∷ s)) z ∙ lines-here s))))
    (λ ne.
    let r = first_ended s i (omega arith) (joined_same b (lines_of s) (lines_of (drop (suc i) s)) (take i s)
    (some-line s (omega arith)) (sym (lines-later b s ne) ∙ e)) in
    record { plain = byte ne r.plain; split = ap (λ (x : List ℕ). b ∷ x) r.split })

-- a window that is one line
pub one_line : (s : List ℕ) → lines_of s ≡ s ∷ [] → Plain s
unfolding first-length
one_line [] e = empty
one_line (b ∷ []) e = by-eq b 10
    (λ z. absurd (omega (arith, ap first-length (sym e ∙ ap (λ (x : ℕ). lines_of (x ∷ [])) z ∙ lines-here []))))
    (λ ne. byte ne empty)
one_line (b ∷ c ∷ s) e = by-eq b 10
    (λ z. absurd (omega (arith, ap first-length (sym e ∙ ap (λ (x : ℕ). lines_of (x ∷ c ∷ s)) z ∙ lines-here (c ∷ s)))))
    (λ ne. byte ne (one_line (c ∷ s) (joined_same b (lines_of (c ∷ s)) [] (c ∷ s) (some-line (c ∷ s) (omega arith))
    (sym (lines-later b (c ∷ s) ne) ∙ e))))
