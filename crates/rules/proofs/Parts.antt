-- Bytes with a text from some place on, and a range of them: where the text is, and apart from it.
use Prim.Native.Nat.{ℕ, ◌+◌, ◌-◌, ◌≤◌, ◌<◌, min}
use mathlib.Core.Path.{◌≡◌, sym, ap, ◌∙◌}
use mathlib.Core.List.{List, ◌++◌, append_assoc}
use native.Mathlib.Omega.{arith}
use native.Mathlib.Decide.{dec_le}
use lib.ListN.{get_or-append, length, get_or, take, drop, length-append, length-take, length-drop}
use lib.Seq.{ext_get_or, drop_at, take-append_seam, get_or-take, get_or-drop, get_or-append-add}
use Rattle.rules.specs.Store.{Window, State}
use Rattle.rules.specs.Call.{Call}
use Rattle.rules.specs.Calls.{written}

-- the text from start on, the rest as it was
abbrev pub replaced : ℕ → List ℕ → List ℕ → List ℕ
replaced start text xs = take start xs ++ (text ++ drop (start + length text) xs)

-- it is what a write leaves, where the text fits its range
pub written_is : (s : State) (c : Call) (me k : ℕ) → c.range.start + length c.text ≡ c.range.end
    → (xs : List ℕ) → replaced c.range.start c.text xs ≡ written s c me k xs
unfolding written
written_is s c me k e xs = rw e (sym (append_assoc (take c.range.start xs) c.text (drop c.range.end xs)))

-- a range, as read gives it
abbrev pub part_of : Window → List ℕ → List ℕ
part_of v xs = take (v.end - v.start) (drop v.start xs)

part_at : (v : Window) (xs : List ℕ) (i : ℕ) → i < v.end - v.start → get_or (part_of v xs) i 0 ≡ get_or xs (v.start + i) 0
part_at v xs i h = get_or-take (v.end - v.start) (drop v.start xs) i 0 h ∙ get_or-drop v.start xs i 0

module _ (start : ℕ) (text xs : List ℕ) (fits : start + length text ≤ length xs) where
  front_length : length (take start xs) ≡ start
  front_length = omega (arith, length-take start xs)

  pub replaced-length : length (replaced start text xs) ≡ length xs
  replaced-length = rw (length-append, length-append, length-take, length-drop) (omega arith)

  pub replaced-front : (i : ℕ) → i < start → get_or (replaced start text xs) i 0 ≡ get_or xs i 0
  replaced-front i h = get_or-append (take start xs) (text ++ drop (start + length text) xs) 0 i
      (omega (arith, front_length)) ∙ get_or-take start xs i 0 h

  replaced-on : (j : ℕ) → get_or (replaced start text xs) (start + j) 0
      ≡ get_or (text ++ drop (start + length text) xs) j 0
  replaced-on j =
      ap (λ x. get_or (replaced start text xs) (x + j) 0) (sym front_length)
      ∙ get_or-append-add (take start xs) (text ++ drop (start + length text) xs) j 0

  pub replaced-in : (j : ℕ) → j < length text → get_or (replaced start text xs) (start + j) 0 ≡ get_or text j 0
  replaced-in j h = replaced-on j ∙ get_or-append text (drop (start + length text) xs) 0 j h

  pub replaced-back : (i : ℕ) → start + length text ≤ i → get_or (replaced start text xs) i 0 ≡ get_or xs i 0
  replaced-back i h =
      let m : ℕ = i - (start + length text) in
      let here : start + (length text + m) ≡ i = omega arith in
      let there : start + length text + m ≡ i = omega arith in
      ap (λ x. get_or (replaced start text xs) x 0) (sym here)
      ∙ replaced-on (length text + m)
      ∙ get_or-append-add text (drop (start + length text) xs) m 0
      ∙ get_or-drop (start + length text) xs m 0
      ∙ ap (λ x. get_or xs x 0) there

  -- where the text is
  pub part_in : take (length text) (drop start (replaced start text xs)) ≡ text
  part_in =
      ap (take (length text)) (drop_at (take start xs) (text ++ drop (start + length text) xs) start front_length)
      ∙ take-append_seam text (drop (start + length text) xs)

  -- a range in which it is not
  module _ (v : Window) (apart : (p : ℕ) → v.start ≤ p → p < v.end → start ≤ p → p < start + length text → ⊥) where
    replaced-else : (p : ℕ) → v.start ≤ p → p < v.end → get_or (replaced start text xs) p 0 ≡ get_or xs p 0
    replaced-else p a b = go (dec_le start p) (dec_le (start + length text) p) where
      go : Dec (start ≤ p) → Dec (start + length text ≤ p) → get_or (replaced start text xs) p 0 ≡ get_or xs p 0
      go (no h) g = replaced-front p (omega arith)
      go (yes h) (yes g) = replaced-back p g
      go (yes h) (no g) = absurd (apart p a b h (omega arith))

    part_length : length (part_of v (replaced start text xs)) ≡ length (part_of v xs)
    part_length =
        let n : ℕ = v.end - v.start in
        length-take n (drop v.start (replaced start text xs))
        ∙ ap (min n) (length-drop v.start (replaced start text xs)
        ∙ ap (λ x. x - v.start) replaced-length ∙ sym (length-drop v.start xs))
        ∙ sym (length-take n (drop v.start xs))

    pub part_apart : part_of v (replaced start text xs) ≡ part_of v xs
    part_apart = ext_get_or 0 (part_of v (replaced start text xs)) (part_of v xs) part_length
        (λ i h. let g : i < v.end - v.start =
        omega (arith, length-take (v.end - v.start) (drop v.start (replaced start text xs))) in
        part_at v (replaced start text xs) i g
        ∙ replaced-else (v.start + i) (omega arith) (omega arith)
        ∙ sym (part_at v xs i g))
