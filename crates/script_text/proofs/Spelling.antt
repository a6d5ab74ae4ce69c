-- The digits of a number, counted, and written into a slice from the last back.
use Prim.Native.Nat.{ℕ, ◌+◌, ◌-◌, ◌/◌, ◌%◌, ◌≤◌, ◌<◌}
use mathlib.Core.Path.{◌≡◌, refl, sym, ap, ◌∙◌}
use mathlib.Core.List.{List, [], ◌∷◌, ◌++◌, append_assoc, append-nil}
use native.Mathlib.Omega.{arith}
use native.Mathlib.Numerals.{add-one}
use lib.ListN.{length, take, drop, set, length-append, length-set}
use lib.Seq.{set-append_left, take-set-lt, take-suc-set, length-take-le}
use Rattle.script_text.specs.Numeral.{numeral}
use Rattle.script_text.specs.Pasted.{pasted, Wrote}
use Rattle.script_text.proofs.Numerals.{numeral-digit, numeral-tenth, long-length}
use Rattle.script_text.proofs.Pasting.{wrote_none}

-- ---- how many

pub one-digit : (n : ℕ) → n < 10 → length (numeral n) ≡ 1
one-digit n h = ap length (numeral-digit n h)

pub more-digits : (n : ℕ) → 10 ≤ n → length (numeral n) ≡ length (numeral (n / 10)) + 1
more-digits n h = ap length (numeral-tenth n h) ∙ length-append (numeral (n / 10)) ((48 + n % 10) ∷ [])

pub two_digits : (n : ℕ) → 10 ≤ n → n < 100 → length (numeral n) ≡ 2
two_digits n h g =
    let few : n / 10 < 10 = omega arith in
    omega (arith, more-digits n h, one-digit (n / 10) few)

pub three-digits : (n : ℕ) → 100 ≤ n → n < 1000 → length (numeral n) ≡ 3
three-digits n h g =
    let low : 10 ≤ n / 10 = omega arith in
    let few : n / 10 < 100 = omega arith in
    omega (arith, more-digits n (omega arith), two_digits (n / 10) low few)

-- k and the digits of `rest` are one more than those of n
pub record Counting (n k rest : ℕ) : Type 0 where
  pub same : k + length (numeral rest) ≡ length (numeral n) + 1

pub counting-none : (n : ℕ) → Counting n 1 n
counting-none n = record { same = omega arith }

pub counting_more : (n k rest : ℕ) → Counting n k rest → 10 ≤ rest → Counting n (k + 1) (rest / 10)
counting_more n k rest c h = record { same = omega (arith, c.same, more-digits rest h) }

pub counting-all : (n k rest : ℕ) → Counting n k rest → rest < 10 → k ≡ length (numeral n)
counting-all n k rest c h = omega (arith, c.same, one-digit rest h)

pub counting-few : (n k rest : ℕ) → Counting n k rest → n ≤ 18446744073709551615 → k ≤ 21
counting-few n k rest c h = omega (arith, c.same, long-length n h)

-- ---- one before the others

before : (out t : List ℕ) (i d : ℕ) → i < length out → set (pasted out (i + 1) t) i d ≡ pasted out i (d ∷ t)
unfolding pasted
before out t i d h =
    let first : length (take (i + 1) out) ≡ i + 1 = length-take-le (i + 1) out (omega arith) in
    let next : i + 1 + length t ≡ i + length (d ∷ t) = omega arith in
    set-append_left (take (i + 1) out ++ t) (drop (i + 1 + length t) out) i d
    (omega (arith, first, length-append (take (i + 1) out) t))
    ∙ ap (λ (l : List ℕ). l ++ drop (i + 1 + length t) out) (set-append_left (take (i + 1) out) t i d (omega (arith, first)))
    ∙ ap (λ (l : List ℕ). (l ++ t) ++ drop (i + 1 + length t) out)
    (sym (take-set-lt (i + 1) out i d (omega arith))
    ∙ ap (λ (k : ℕ). take k (set out i d)) (add-one i) ∙ take-suc-set out i d h)
    ∙ ap (λ (l : List ℕ). l ++ drop (i + 1 + length t) out) (append_assoc (take i out) (d ∷ []) t)
    ∙ ap (λ (k : ℕ). (take i out ++ (d ∷ t)) ++ drop k out) next

-- the digits of n after those of `rest` stand from place i on
pub record Spelling (out₀ : List ℕ) (at n : ℕ) (out : List ℕ) (i rest : ℕ) : Type 0 where
  pub done : List ℕ
  pub text : numeral n ≡ numeral rest ++ done
  pub is : out ≡ pasted out₀ i done
  pub place : i ≡ at + length (numeral rest)
  pub size : length out ≡ length out₀

pub spelling-none : (out : List ℕ) (at n i : ℕ) → i ≡ at + length (numeral n) → Spelling out at n out i n
spelling-none out at n i e = record {
  done = [];
  text = sym (append-nil (numeral n));
  is = (wrote_none out i).is;
  place = e;
  size = refl;
}

module _ (out₀ : List ℕ) (at n : ℕ) (out : List ℕ) (i rest : ℕ) (s : Spelling out₀ at n out i rest) where
  -- as many as are written and left
  all : length (numeral n) ≡ length (numeral rest) + length s.done
  all = ap length s.text ∙ length-append (numeral rest) s.done

  -- there is room for one more
  pub spelling-place : at + length (numeral n) ≤ length out₀ → 10 ≤ rest
      → (1 ≤ i) × (i - 1 < length out) × (i ≤ length out₀)
  spelling-place room h =
      let low : 1 ≤ i = omega (arith, s.place, more-digits rest h) in
      let high : i ≤ length out₀ = omega (arith, s.place, all) in
      (low, omega (arith, s.size), high)

  pub spelling-first : at + length (numeral n) ≤ length out₀ → rest < 10 → (at < length out) × (at < length out₀)
  spelling-first room h =
      let high : at < length out₀ = omega (arith, all, one-digit rest h) in
      (omega (arith, s.size), high)

  pub spelling-more : 10 ≤ rest → i ≤ length out₀ → Spelling out₀ at n (set out (i - 1) (48 + rest % 10)) (i - 1) (rest / 10)
  spelling-more h room =
      let e : i ≡ i - 1 + 1 = omega (arith, s.place, more-digits rest h) in
      record {
        done = (48 + rest % 10) ∷ s.done;
        text = s.text ∙ ap (λ (l : List ℕ). l ++ s.done) (numeral-tenth rest h)
            ∙ append_assoc (numeral (rest / 10)) ((48 + rest % 10) ∷ []) s.done;
        is = ap (λ (l : List ℕ). set l (i - 1) (48 + rest % 10)) (s.is ∙ ap (λ (k : ℕ). pasted out₀ k s.done) e)
            ∙ before out₀ s.done (i - 1) (48 + rest % 10) (omega (arith, e, room));
        place = omega (arith, s.place, more-digits rest h);
        size = length-set out (i - 1) (48 + rest % 10) ∙ s.size;
      }

  pub spelling-all : rest < 10 → at < length out₀ → (r : ℕ) → r ≡ at + length (numeral n)
      → Wrote out₀ at (numeral n) (set out at (48 + rest)) r
  spelling-all h room r end =
      let e : i ≡ at + 1 = omega (arith, s.place, one-digit rest h) in
      record {
        is = ap (λ (l : List ℕ). set l at (48 + rest)) (s.is ∙ ap (λ (k : ℕ). pasted out₀ k s.done) e)
            ∙ before out₀ s.done at (48 + rest) room
            ∙ ap (pasted out₀ at) (sym (s.text ∙ ap (λ (l : List ℕ). l ++ s.done) (numeral-digit rest h)));
        end = end;
      }
