-- What is written into a slice, part after part.
use Prim.Native.Nat.{ℕ, suc, ◌+◌, ◌*◌, ◌≤◌, ◌<◌}
use mathlib.Core.Path.{◌≡◌, refl, sym, ap, ◌∙◌, subst}
use mathlib.Core.List.{List, [], ◌∷◌, ◌++◌, append_assoc, append-nil}
use native.Mathlib.Omega.{arith}
use native.Mathlib.Numerals.{add-one}
use native.Mathlib.Nat.{add_assoc, add-zero}
use lib.ListN.{length, get_or, take, drop, set, length-append, take-append-drop}
use lib.Seq.{take_all, take-suc, drop-drop, set_split, append_snoc, take_at, length-take-le, drop-append-add}
use Rattle.script_text.specs.Numeral.{numeral, after, spaced, line_of}
use Rattle.script_text.specs.Pasted.{pasted, Wrote, Put}
use Rattle.script_text.proofs.Numerals.{numeral-length, long-length}

pub wrote-byte : (out : List ℕ) (at b : ℕ) → at < length out → Wrote out at (b ∷ []) (set out at b) (at + 1)
unfolding pasted
wrote-byte out at b h = record {
  is = set_split out at b h ∙ sym (append_snoc (take at out) b (drop (suc at) out))
      ∙ ap (λ (k : ℕ). (take at out ++ (b ∷ [])) ++ drop k out) (sym (add-one at));
  end = refl;
}

-- ---- one text after another

front_length : (out s : List ℕ) (at : ℕ) → at ≤ length out → length (take at out ++ s) ≡ at + length s
front_length out s at h = length-append (take at out) s ∙ ap (λ (n : ℕ). n + length s) (length-take-le at out h)

rest-after : (out s : List ℕ) (at n : ℕ) → at ≤ length out
    → drop (at + length s + n) ((take at out ++ s) ++ drop (at + length s) out) ≡ drop (at + (length s + n)) out
rest-after out s at n h =
    ap (λ (k : ℕ). drop (k + n) ((take at out ++ s) ++ drop (at + length s) out)) (sym (front_length out s at h))
    ∙ drop-append-add (take at out ++ s) (drop (at + length s) out) n
    ∙ drop-drop n (at + length s) out
    ∙ ap (λ (k : ℕ). drop k out) (add_assoc at (length s) n)

pasted-after : (out s t : List ℕ) (at : ℕ) → at ≤ length out
    → pasted (pasted out at s) (at + length s) t ≡ pasted out at (s ++ t)
unfolding pasted
pasted-after out s t at h =
    ap (λ (l : List ℕ). l ++ t ++ drop (at + length s + length t) ((take at out ++ s) ++ drop (at + length s) out))
    (take_at (take at out ++ s) (drop (at + length s) out) (at + length s) (front_length out s at h))
    ∙ ap (λ (l : List ℕ). (take at out ++ s) ++ t ++ l) (rest-after out s at (length t) h)
    ∙ ap (λ (l : List ℕ). l ++ drop (at + (length s + length t)) out) (append_assoc (take at out) s t)
    ∙ ap (λ (k : ℕ). (take at out ++ (s ++ t)) ++ drop (at + k) out) (sym (length-append s t))

pub wrote_then : {out mid out' s t : List ℕ} {at p q : ℕ} → Wrote out at s mid p → Wrote mid p t out' q → at ≤ length out
    → Wrote out at (s ++ t) out' q
wrote_then {out} {mid} {out'} {s} {t} {at} {p} {q} a b h = record {
  is = b.is ∙ ap (λ (l : List ℕ). pasted l p t) a.is ∙ ap (λ (k : ℕ). pasted (pasted out at s) k t) a.end
      ∙ pasted-after out s t at h;
  end = b.end ∙ ap (λ (k : ℕ). k + length t) a.end ∙ add_assoc at (length s) (length t)
      ∙ ap (λ (k : ℕ). at + k) (sym (length-append s t));
}

-- nothing
pub wrote_none : (out : List ℕ) (at : ℕ) → Wrote out at [] out at
unfolding pasted
wrote_none out at = record {
  is = sym (ap (λ (l : List ℕ). l ++ drop (at + 0) out) (append-nil (take at out))
      ∙ ap (λ (k : ℕ). take at out ++ drop k out) (add-zero at) ∙ take-append-drop at out);
  end = omega arith;
}

-- a number takes ten places at most
pub number-end : {out out' : List ℕ} {at n r : ℕ} → Wrote out at (numeral n) out' r → n ≤ 4294967295 → r ≤ at + 10
number-end {n = n} w h = omega (arith, w.end, numeral-length n h)

-- ---- numbers with a space before each

after-snoc : (ns : List ℕ) (n : ℕ) → after (ns ++ (n ∷ [])) ≡ after ns ++ (32 ∷ numeral n)
unfolding after
after-snoc [] n = ap (λ (l : List ℕ). 32 ∷ l) (append-nil (numeral n))
after-snoc (m ∷ ns) n =
    ap (λ (l : List ℕ). 32 ∷ numeral m ++ l) (after-snoc ns n)
    ∙ ap (λ (l : List ℕ). 32 ∷ l) (sym (append_assoc (numeral m) (after ns) (32 ∷ numeral n)))

-- the first i of ns are written
pub record Putting (out₀ : List ℕ) (at : ℕ) (ns out : List ℕ) (p i : ℕ) : Type 0 where
  pub wrote : Wrote out₀ at (after (take i ns)) out p
  pub size : length out ≡ length out₀
  pub within : i ≤ length ns
  pub room : p ≤ at + 11 * i

pub putting-none : (out : List ℕ) (at : ℕ) (ns : List ℕ) → Putting out at ns out at 0
unfolding after
putting-none out at ns = record { wrote = wrote_none out at; size = refl; within = omega arith; room = omega arith }

pub putting-more : (out₀ : List ℕ) (at : ℕ) (ns out : List ℕ) (p i : ℕ) (mid out' : List ℕ) (q r : ℕ)
    → Putting out₀ at ns out p i → at ≤ length out₀ → i < length ns → get_or ns i 0 ≤ 4294967295
    → Wrote out p (32 ∷ []) mid q → Wrote mid q (numeral (get_or ns i 0)) out' r → length out' ≡ length out
    → Putting out₀ at ns out' r (i + 1)
putting-more out₀ at ns out p i mid out' q r g h inside fits space number size = record {
  wrote = subst (λ (t : List ℕ). Wrote out₀ at t out' r)
      (append_assoc (after (take i ns)) (32 ∷ []) (numeral (get_or ns i 0))
      ∙ sym (after-snoc (take i ns) (get_or ns i 0))
      ∙ ap after (sym (take-suc ns i 0 inside) ∙ ap (λ (k : ℕ). take k ns) (sym (add-one i))))
      (wrote_then (wrote_then g.wrote space h) number h);
  size = size ∙ g.size;
  within = omega arith;
  room = omega (arith, g.room, space.end, number-end number fits);
}

pub putting-all : (out₀ : List ℕ) (at : ℕ) (ns out : List ℕ) (p i : ℕ) → Putting out₀ at ns out p i → length ns ≤ i
    → Put (11 * length ns) out₀ at (after ns) out p
putting-all out₀ at ns out p i g h = record {
  wrote = subst (λ (l : List ℕ). Wrote out₀ at (after l) out p) (take_all i ns h) g.wrote;
  room = omega (arith, g.room, g.within);
}

-- the first number, the others each with a space before it, and the line's end
pub put_all : (out : List ℕ) (at n : ℕ) (ns one two out' : List ℕ) (p q r : ℕ) → n ≤ 18446744073709551615 → at ≤ length out
    → Wrote out at (numeral n) one p → Put (11 * length ns) one p (after ns) two q
    → Wrote two q (10 ∷ []) out' r → Put (21 + 11 * length ns) out at (line_of (n ∷ ns)) out' r
unfolding spaced line_of
put_all out at n ns one two out' p q r fits h first others end = record {
  wrote = wrote_then (wrote_then first others.wrote h) end h;
  room = omega (arith, long-length n fits, first.end, others.room, end.end);
}
