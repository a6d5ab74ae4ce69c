-- What the output buffer keeps of a text, where it is full and where the text ends.
use Rattle.std.proofs.Common.{◌≡◌, ℕ, ◌+◌, ◌-◌, ◌*◌, ◌/◌, ◌≤◌, List, [], ◌∷◌, ◌++◌, suc, length, drop, arith, length-append, append_assoc, refl, sym, ap, ◌∙◌}
use Rattle.sheet.specs.Kept.{SIZE, kept}

drop-past : (xs ys : List ℕ) (k : ℕ) → drop (length xs + k) (xs ++ ys) ≡ drop k ys
drop-past [] ys k = let e : length {A = ℕ} [] + k ≡ k = omega arith in ap (λ n. drop n ys) e
drop-past (x ∷ xs) ys k = let e : length (x ∷ xs) + k ≡ suc (length xs + k) = omega arith in rw e (drop-past xs ys k)

full-written : (full text : List ℕ) → length full ≡ SIZE → 1 ≤ length text → kept (full ++ text) ≡ kept text
unfolding kept
full-written full text h k =
    let more : SIZE * ((length (full ++ text) - 1) / SIZE) ≡ length full + SIZE * ((length text - 1) / SIZE) = omega (arith, h, k, length-append full text) in
    rw more (drop-past full text _)

-- the front of a text fills the buffer, and more comes
pub kept-full : {text new : List ℕ} (held front later : List ℕ) → new ≡ [] → text ≡ front ++ later → length held + length front ≡ SIZE
    → 1 ≤ length later → kept (new ++ later) ≡ kept (held ++ text)
kept-full held front later e f h k =
    let full : length (held ++ front) ≡ SIZE = omega (arith, h, length-append held front) in
    rw e (rw f (sym (full-written (held ++ front) later full k) ∙ ap kept (append_assoc held front later)))

-- what there is room for is kept
pub kept-all : (text : List ℕ) → length text ≤ SIZE → kept text ≡ text
unfolding kept
kept-all text h =
    let none : SIZE * ((length text - 1) / SIZE) ≡ 0 = omega (arith, h) in
    rw none refl
