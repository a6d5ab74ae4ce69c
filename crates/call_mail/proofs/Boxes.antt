-- Messages in a row of places: moved as they are from one slot to another, and one more at the end.
use Prim.Native.Nat.{ℕ, zero, suc, ◌+◌, ◌*◌, ◌≤◌, ◌<◌}
use mathlib.Core.Path.{◌≡◌, refl, sym, ap, ◌∙◌}
use mathlib.Core.List.{List, [], ◌∷◌, ◌++◌}
use native.Mathlib.Omega.{arith}
use lib.ListN.{length, get_or, take, drop, length-drop}
use lib.Seq.{length-take-le, get_or-take, get_or-drop, ext_get_or}
use Rattle.rules.specs.Store.{Message}
use Rattle.layout.specs.Layout as Layout
use Rattle.layout.specs.Rows.{text_in}
use Rattle.layout.specs.View.{messages}
use Rattle.layout.proofs.Field.{region-length, region-at}
use Rattle.call_mail.specs.Runs.{text_from}

-- the message in slot i
abbrev pub message_at : (len sum : ℕ → ℕ) → List ℕ → ℕ → Message
message_at len sum text i = record { bytes = take (len i) (drop (i * 16) text); sum = sum i }

pub message-is : (len len' sum sum' : ℕ → ℕ) (text text' : List ℕ) (i i' : ℕ) → len' i' ≡ len i → sum' i' ≡ sum i
    → take (len i) (drop (i' * 16) text') ≡ take (len i) (drop (i * 16) text)
    → message_at len' sum' text' i' ≡ message_at len sum text i
message-is len len' sum sum' text text' i i' n s t =
    let u = ap (λ k. take k (drop (i' * 16) text')) n ∙ t in
    λ k. record { bytes = u k; sum = s k }

-- n bytes of the text in slot i
module _ (b : List ℕ) (z : length b ≡ Layout.BYTES) (i n : ℕ) (high : i ≤ 259) (small : n ≤ 16) where
  pub text-length : length (take n (drop (i * 16) (text_in b))) ≡ n
  text-length = length-take-le n (drop (i * 16) (text_in b))
      (rw (length-drop (i * 16) (text_in b), region-length 4160 Layout.TEXT b (omega arith)) (omega arith))

  pub text_at : (j : ℕ) → j < n → get_or (take n (drop (i * 16) (text_in b))) j 0 ≡ get_or b (text_from i + j) 0
  text_at j p =
      let from : Layout.TEXT + (i * 16 + j) ≡ text_from i + j = omega arith in
      get_or-take n (drop (i * 16) (text_in b)) j 0 p
      ∙ get_or-drop (i * 16) (text_in b) j 0
      ∙ region-at 4160 Layout.TEXT b (i * 16 + j) (omega arith)
      ∙ ap (λ k. get_or b k 0) from

  -- they are the list t, which has them one by one
  pub text-is : (t : List ℕ) → length t ≡ n → ((j : ℕ) → j < n → get_or b (text_from i + j) 0 ≡ get_or t j 0)
      → take n (drop (i * 16) (text_in b)) ≡ t
  text-is t e h = ext_get_or 0 (take n (drop (i * 16) (text_in b))) t (text-length ∙ sym e)
      (λ j p.
      let q : j < n = omega (arith, p, text-length) in
      text_at j q ∙ h j q)

-- those in slot i', where they are those in slot i, before
pub text_same : (b b' : List ℕ) → length b ≡ Layout.BYTES → length b' ≡ Layout.BYTES → (i i' n : ℕ) → i ≤ 259 → i' ≤ 259
    → n ≤ 16 → ((j : ℕ) → j < n → get_or b' (text_from i' + j) 0 ≡ get_or b (text_from i + j) 0)
    → take n (drop (i' * 16) (text_in b')) ≡ take n (drop (i * 16) (text_in b))
text_same b b' z z' i i' n high high' small h =
    text-is b' z' i' n high' small (take n (drop (i * 16) (text_in b))) (text-length b z i n high small)
    (λ j p. h j p ∙ sym (text_at b z i n high small j p))

-- those of n slots from i' on are those of n slots from i on, before
pub messages-moved : (len len' sum sum' : ℕ → ℕ) (text text' : List ℕ) (n i i' : ℕ)
    → ((m : ℕ) → m < n → message_at len' sum' text' (i' + m) ≡ message_at len sum text (i + m))
    → messages n len' sum' text' i' ≡ messages n len sum text i
unfolding messages
messages-moved len len' sum sum' text text' zero i i' h = refl
messages-moved len len' sum sum' text text' (suc n) i i' h =
    let here : i + 0 ≡ i = omega arith in
    let here' : i' + 0 ≡ i' = omega arith in
    let head : message_at len' sum' text' i' ≡ message_at len sum text i = rw (here, here') at (h 0 (omega arith)) in
    let rest = messages-moved len len' sum sum' text text' n (suc i) (suc i') (λ m p.
    let on : suc i + m ≡ i + suc m = omega arith in
    let on' : suc i' + m ≡ i' + suc m = omega arith in
    rw (on, on') (h (suc m) (omega arith))) in
    λ k. head k ∷ rest k

pub messages-more : (len sum : ℕ → ℕ) (text : List ℕ) (n i : ℕ)
    → messages (suc n) len sum text i ≡ messages n len sum text i ++ message_at len sum text (i + n) ∷ []
unfolding messages
messages-more len sum text zero i =
    let here : i + 0 ≡ i = omega arith in
    rw here refl
messages-more len sum text (suc n) i =
    let on : suc i + n ≡ i + suc n = omega arith in
    ap (λ r. message_at len sum text i ∷ r) (rw (← on) (messages-more len sum text n (suc i)))
