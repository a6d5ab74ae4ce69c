-- A line as a call, field by field.
use Prim.Native.Nat.{ℕ, ◌+◌, ◌-◌, ◌≤◌}
use mathlib.Core.Path.{◌≡◌, refl, sym, ap, ◌∙◌}
use mathlib.Core.Bool.{Bool, true, false, ◌&&◌, false≢true}
use mathlib.Core.Logic.{◌≢◌}
use mathlib.Core.List.{List, [], ◌∷◌}
use native.Mathlib.Omega.{arith}
use lib.Dec.{eqb, leb}
use lib.ListN.{length, drop}
use borrow.Author.Tests.{eq-eqb, ne_eqb}
use Rattle.rules.specs.Rights.{Op}
use Rattle.rules.specs.Fields.{text, fields, place}
use Rattle.rules.specs.Script.{nth, whole, are_bytes, is_call, line_fits, number_at, bytes_at, call_of}
use Rattle.rules.proofs.Tests.{pick_yes, pick-not}
use Rattle.script_lines.specs.Lists.{Front}
use Rattle.script_lines.specs.Lacking.{lacking, number_or}
use Rattle.script_lines.proofs.Lacking.{whole_long}

-- ---- the number in a field

-- the line does not have the field
pub absent : (l : List ℕ) (p : ℕ) → p ≡ 0 → 0 ≡ number_at l p
unfolding number_at
absent l p z = sym (pick_yes (eqb p 0) _ _ (eq-eqb p 0 z))

pub present : (l : List ℕ) (p k v : ℕ) → k ≡ p → v ≡ nth l k → p ≢ 0 → v ≡ number_at l p
unfolding number_at
present l p k v e h n = h ∙ ap (λ (i : ℕ). nth l i) e ∙ sym (pick-not (eqb p 0) _ _ (ne_eqb p 0 n))

-- ---- a field after those that the line may lack, and one of those

pub after-absent : (l : List ℕ) (p n : ℕ) → p ≤ n → 0 ≡ number_at l (p - n)
after-absent l p n h = absent l (p - n) (omega arith)

pub or-default : (b : Bool) (l : List ℕ) (p d : ℕ) → b ≡ true → d ≡ number_or b d l p
unfolding number_or
or-default b l p d e = ap (λ x. number_or x d l p) (sym e)

pub or-had : (b : Bool) (l : List ℕ) (p d v : ℕ) → b ≡ false → v ≡ number_at l p → v ≡ number_or b d l p
unfolding number_or
or-had b l p d v e h = h ∙ ap (λ x. number_or x d l p) (sym e)

-- ---- a line that fits: a is the place of its bytes, and b how many fields it has

-- of its first number v
pub call-is : (l : List ℕ) (v : ℕ) (r t : Bool) → v ≡ nth l 0 → r ≡ is_call v → r ≡ t → is_call (nth l 0) ≡ t
call-is l v r t e f g = ap is_call (sym e) ∙ sym f ∙ g

-- no line without a call's number
pub fits_not : (o : Op) (l : List ℕ) → is_call (nth l 0) ≡ false → line_fits o l ≡ false
unfolding line_fits
fits_not o [] e = refl
fits_not o (n ∷ l) e = ap (λ x. x && elim (eqb (place o text) 0) [
  | true ↦ eqb (length (whole o (n ∷ l))) (length (fields o))
  | false ↦ leb (place o text) (length (n ∷ l)) && are_bytes (drop (place o text) (n ∷ l))
]) e

fits-call : (o : Op) (l : List ℕ) → is_call (nth l 0) ≡ true → line_fits o l ≡ elim (eqb (place o text) 0) [
  | true ↦ eqb (length (whole o l)) (length (fields o))
  | false ↦ leb (place o text) (length l) && are_bytes (drop (place o text) l)
]
unfolding line_fits is_call
fits-call o [] e = absurd (false≢true e)
fits-call o (n ∷ l) e = ap (λ x. x && elim (eqb (place o text) 0) [
  | true ↦ eqb (length (whole o (n ∷ l))) (length (fields o))
  | false ↦ leb (place o text) (length (n ∷ l)) && are_bytes (drop (place o text) (n ∷ l))
]) e

-- numbers alone, n of them lacking
pub fits-exactly : (o : Op) (l : List ℕ) (a b n : ℕ) → is_call (nth l 0) ≡ true → a ≡ place o text → a ≡ 0
    → n ≡ lacking o l → b ≡ length (fields o) → eqb (length l + n) b ≡ line_fits o l
fits-exactly o l a b n h e z lacks f =
    ap (eqb (length l + n)) f
    ∙ ap (λ (k : ℕ). eqb (length l + k) (length (fields o))) lacks
    ∙ ap (λ (k : ℕ). eqb k (length (fields o))) (sym (whole_long o l))
    ∙ sym (fits-call o l h ∙ pick_yes (eqb (place o text) 0) _ _ (eq-eqb (place o text) 0 (sym e ∙ z)))

-- numbers before the bytes
pub before-bytes : (o : Op) (l : List ℕ) → is_call (nth l 0) ≡ true → place o text ≢ 0
    → (leb (place o text) (length l) && are_bytes (drop (place o text) l)) ≡ line_fits o l
before-bytes o l h e = sym (fits-call o l h ∙ pick-not (eqb (place o text) 0) _ _ (ne_eqb (place o text) 0 e))

pub fits-or-more : (o : Op) (l : List ℕ) (a : ℕ) (r : Bool) → is_call (nth l 0) ≡ true → a ≡ place o text → a ≢ 0
    → r ≡ (leb a (length l) && are_bytes (drop a l)) → r ≡ line_fits o l
fits-or-more o l a r h e n is =
    is ∙ ap (λ (k : ℕ). leb k (length l) && are_bytes (drop k l)) e ∙ before-bytes o l h (λ z. n (e ∙ z))

-- ---- the bytes of a line

pub no_front : (o : Op) (l out : List ℕ) (a : ℕ) → a ≡ place o text → a ≡ 0 → Front (call_of o l).text out 0
unfolding bytes_at call_of
no_front o l out a e z = record {
  is = sym (pick_yes (eqb (place o text) 0) _ _ (eq-eqb (place o text) 0 (sym e ∙ z)));
  within = omega arith;
}

pub bytes-front : (o : Op) (l out : List ℕ) (a r : ℕ) → a ≡ place o text → a ≢ 0 → Front (drop a l) out r
    → Front (call_of o l).text out r
unfolding bytes_at call_of
bytes-front o l out a r e n f = record {
  is = f.is ∙ ap (λ (k : ℕ). drop k l) e
      ∙ sym (pick-not (eqb (place o text) 0) _ _ (ne_eqb (place o text) 0 (λ z. n (e ∙ z))));
  within = f.within;
}
