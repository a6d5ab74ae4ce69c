-- Bytes copied to the front of a slice, one after another.
use Prim.Native.Nat.{ℕ, ◌+◌, ◌≤◌, ◌<◌}
use mathlib.Core.Path.{◌≡◌, refl, sym, ap, ◌∙◌}
use mathlib.Core.List.{List, [], ◌∷◌, ◌++◌}
use native.Mathlib.Omega.{arith}
use native.Mathlib.Numerals.{add-one}
use lib.ListN.{length, get_or, take, drop, set, length-set, length-drop}
use lib.Seq.{take-suc, take-suc-set, get_or-drop, take_all}
use Rattle.script_lines.specs.Lists.{Front}

-- one more
pub one_more : (out : List ℕ) (at v : ℕ) → at < length out → take (at + 1) (set out at v) ≡ take at out ++ (v ∷ [])
one_more out at v h = ap (λ (k : ℕ). take k (set out at v)) (add-one at) ∙ take-suc-set out at v h

pub next_of : (l : List ℕ) (i : ℕ) → i < length l → take i l ++ (get_or l i 0 ∷ []) ≡ take (i + 1) l
next_of l i h = sym (take-suc l i 0 h) ∙ ap (λ (k : ℕ). take k l) (sym (add-one i))

-- ---- what is left of a line, from its place `from` on

-- n are copied, and place i is next
pub record Copying (l : List ℕ) (from : ℕ) (text₀ text : List ℕ) (i n : ℕ) : Type 0 where
  pub is : take n text ≡ take n (drop from l)
  pub place : i ≡ from + n
  pub size : length text ≡ length text₀
  pub within : i ≤ length l

pub copying-none : (l : List ℕ) (from : ℕ) (text : List ℕ) → from ≤ length l → Copying l from text text from 0
copying-none l from text h = record { is = refl; place = omega arith; size = refl; within = h }

pub copying-more : (l : List ℕ) (from : ℕ) (text₀ text : List ℕ) (i n : ℕ) → Copying l from text₀ text i n
    → i < length l → n < length text → Copying l from text₀ (set text n (get_or l i 0)) (i + 1) (n + 1)
copying-more l from text₀ text i n c h g = record {
  is = one_more text n (get_or l i 0) g
      ∙ ap (λ (t : List ℕ). t ++ (get_or l i 0 ∷ [])) c.is
      ∙ ap (λ (v : ℕ). take n (drop from l) ++ (v ∷ []))
      (ap (λ (k : ℕ). get_or l k 0) c.place ∙ sym (get_or-drop from l n 0))
      ∙ next_of (drop from l) n (omega (arith, length-drop from l, c.place));
  place = omega (arith, c.place);
  size = length-set text n (get_or l i 0) ∙ c.size;
  within = omega arith;
}

pub copying-all : (l : List ℕ) (from : ℕ) (text₀ text : List ℕ) (i n : ℕ) → Copying l from text₀ text i n
    → length l ≤ i → length l ≤ length text₀ → Front (drop from l) text n
copying-all l from text₀ text i n c h room = record {
  is = c.is ∙ take_all n (drop from l) (omega (arith, length-drop from l, c.place));
  within = omega (arith, c.place, c.size, c.within);
}
