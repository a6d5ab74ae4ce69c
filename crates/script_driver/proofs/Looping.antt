-- The laws of a loop over the lines of a window: how far it came, and what a line, the window's end and the want of room add.
use Prim.Native.Nat.{ℕ, suc, ◌+◌, ◌-◌, ◌≤◌, ◌<◌}
use mathlib.Core.Path.{◌≡◌, sym, ap, ◌∙◌, subst}
use mathlib.Core.List.{List, [], ◌∷◌, ◌++◌, append_assoc, append-nil}
use native.Mathlib.Omega.{arith}
use native.Mathlib.Nat.{add-zero, sub-zero}
use lib.ListN.{length, drop, length-append, length-drop, drop_of_length-le}
use lib.Seq.{take_all, length-take-le, drop-drop}
use Rattle.script_text.specs.Lines.{lines_of, part, EndsLine}
use Rattle.rules.proofs.Tests.{by-eq}
use Rattle.script_driver.specs.Machine.{Machine}
use Rattle.script_driver.specs.Turns.{At, Line, ANSWER, cut, Feeds, all, full, held, ended}
use Rattle.script_driver.proofs.Cutting.{Plain, empty, byte, cut-more, cut-none, cut_twice, means-cut, Ended, first_ended, one_line}

-- ---- bytes of one line

counted : {M : Machine} {room n k : ℕ} {g g' : At M} {l l' window out : List ℕ} → n ≡ k → Feeds M room g l window n out g' l'
    → Feeds M room g l window k out g' l'
counted {M} {room} {g = g} {g' = g'} {l = l} {l' = l'} {window = window} {out = out} e f =
    subst (λ (k : ℕ). Feeds M room g l window k out g' l') e f

pub feeds-plain : {M : Machine} {room n : ℕ} {g g' : At M} {l l' p window out : List ℕ} → Plain p → ANSWER ≤ room → l ≡ cut l
    → Feeds M room g (cut (l ++ p)) window n out g' l' → Feeds M room g l (p ++ window) (length p + n) out g' l'
feeds-plain {M} {room} {n} {g} {g'} {l} {l'} {window = window} {out = out} empty h e f =
    let same : n ≡ 0 + n = omega arith in
    counted same (subst (λ (x : List ℕ). Feeds M room g x window n out g' l') (ap cut (append-nil l) ∙ sym e) f)
feeds-plain {M} {room} {n} {g} {g'} {l} {l'} {window = window} {out = out} (byte {b = b} {l = p} ne plain) h e f =
    let same : suc (length p + n) ≡ suc (length p) + n = omega arith in
    counted same (held h ne (feeds-plain {l = cut (l ++ b ∷ [])} plain h (cut_twice (l ++ b ∷ []))
    (subst (λ (x : List ℕ). Feeds M room g x window n out g' l')
    (sym (cut-more (l ++ b ∷ []) p ∙ ap cut (append_assoc l (b ∷ []) p))) f)))

-- ---- how far it came

-- what is fed from place `from` on, after `out` was written, completes what is fed in all
pub record Reached (M : Machine) (room : ℕ) (g : At M) (l window : List ℕ) (from : ℕ) (out : List ℕ) (m : At M) (h : List ℕ) : Type 0 where
  pub on : {n : ℕ} {g' : At M} {text l' : List ℕ} → Feeds M (room - length out) m h (drop from window) n text g' l'
      → Feeds M room g l window (from + n) (out ++ text) g' l'
  pub left : h ≡ cut h
  pub within : from ≤ length window

pub reached-none : {M : Machine} {room : ℕ} {g : At M} {l window : List ℕ} → l ≡ cut l → Reached M room g l window 0 [] g l
reached-none {M} {room} {g} {l} {window} e = record {
  on = λ {n} {g'} {text} {l'} f.
      let zero_more : 0 + n ≡ n = omega arith in
      subst (λ (k : ℕ). Feeds M room g l window k text g' l') (sym zero_more)
      (subst (λ (k : ℕ). Feeds M k g l window n text g' l') (sub-zero room) f);
  left = e;
  within = omega arith;
}

module _ {M : Machine} {room : ℕ} {g m : At M} {l window : List ℕ} {from : ℕ} {out h : List ℕ}
    (R : Reached M room g l window from out m h) where
  stops : Feeds M (room - length out) m h (drop from window) 0 [] m h → Feeds M room g l window from out m h
  stops f = subst (λ (k : ℕ). Feeds M room g l window k out m h) (add-zero from)
      (subst (λ (x : List ℕ). Feeds M room g l window (from + 0) x m h) (append-nil out) (R.on f))

  -- the window is over
  pub reached-all : from ≡ length window → Feeds M room g l window from out m h
  reached-all e = stops (subst (λ (x : List ℕ). Feeds M (room - length out) m h x 0 [] m h)
      (sym (drop_of_length-le window {i = from} (omega arith))) all)

  -- there is no room for an answer
  pub reached-full : room - length out < ANSWER → Feeds M room g l window from out m h
  reached-full few = stops (full few)

  rest-is : part from (length window) window ≡ drop from window
  rest-is = take_all (length window - from) (drop from window) (omega (arith, length-drop from window))

  -- a line ends at place r
  module _ (r : ℕ) (e : EndsLine window from (length window) r) (inside : r < length window) where
    rest-drop : drop (suc (r - from)) (drop from window) ≡ drop (r + 1) window
    rest-drop = drop-drop (suc (r - from)) from window
        ∙ (let next : from + suc (r - from) ≡ r + 1 = omega (arith, e.low) in ap (λ (k : ℕ). drop k window) next)

    behind-is : part (r + 1) (length window) window ≡ drop (r + 1) window
    behind-is = take_all (length window - (r + 1)) (drop (r + 1) window) (omega (arith, length-drop (r + 1) window))

    split : Ended (drop from window) (r - from)
    split = first_ended (drop from window) (r - from) (omega (arith, length-drop from window, e.low))
        (ap lines_of (sym rest-is) ∙ e.ended inside
        ∙ ap (λ (x : List ℕ). part from r window ∷ lines_of x) (behind-is ∙ sym rest-drop))

    long : length (part from r window) ≡ r - from
    long = length-take-le (r - from) (drop from window) (omega (arith, length-drop from window, e.low))

    line-feeds : {n : ℕ} {q g' : At M} {o text l' : List ℕ} → ANSWER ≤ room - length out
        → Line M m (cut (h ++ part from r window)) o q
        → Feeds M (room - length out - length o) q [] (drop (r + 1) window) n text g' l'
        → Feeds M (room - length out) m h (drop from window) (r - from + suc n) (o ++ text) g' l'
    line-feeds {n} {q} {g'} {o} {text} {l'} some d f =
        let all_of : drop from window ≡ part from r window ++ 10 ∷ drop (r + 1) window =
        split.split ∙ ap (λ (x : List ℕ). part from r window ++ 10 ∷ x) rest-drop in
        subst (λ (x : List ℕ). Feeds M (room - length out) m h x (r - from + suc n) (o ++ text) g' l') (sym all_of)
        (subst (λ (k : ℕ). Feeds M (room - length out) m h (part from r window ++ 10 ∷ drop (r + 1) window) (k + suc n) (o ++ text) g' l') long
        (feeds-plain split.plain some R.left (ended some d f)))

    -- it is played
    pub reached-line : {q : At M} {o : List ℕ} → ANSWER ≤ room - length out → Line M m (cut (h ++ part from r window)) o q
        → Reached M room g l window (r + 1) (out ++ o) q []
    reached-line {q} {o} some d = record {
      on = λ {n} {g'} {text} {l'} f.
          let less : room - length (out ++ o) ≡ room - length out - length o = omega (arith, length-append out o) in
          let count : from + (r - from + suc n) ≡ r + 1 + n = omega (arith, e.low) in
          let fed = R.on (line-feeds some d (subst (λ (k : ℕ). Feeds M k q [] (drop (r + 1) window) n text g' l') less f)) in
          subst (λ (k : ℕ). Feeds M room g l window k ((out ++ o) ++ text) g' l') count
          (subst (λ (x : List ℕ). Feeds M room g l window (from + (r - from + suc n)) x g' l') (sym (append_assoc out o text)) fed);
      left = sym cut-none;
      within = omega arith;
    }

  -- no line ends: the rest of the window is held
  pub reached-held : {r : ℕ} → EndsLine window from (length window) r → r ≡ length window → ANSWER ≤ room - length out
      → Feeds M room g l window (length window) out m (cut (h ++ part from (length window) window))
  reached-held {r} e z some =
      let rest : List ℕ = drop from window in
      let plain : Plain rest = by-eq from (length window)
      (λ y. subst Plain (sym (drop_of_length-le window {i = from} (omega arith))) empty)
      (λ y. one_line rest (ap lines_of (sym rest-is) ∙ e.last z (omega (arith, R.within)) ∙ ap (λ (x : List ℕ). x ∷ []) rest-is)) in
      let fed : Feeds M (room - length out) m h (rest ++ []) (length rest + 0) [] m (cut (h ++ rest)) =
      feeds-plain plain some R.left all in
      let count : from + (length rest + 0) ≡ length window = omega (arith, length-drop from window, R.within) in
      let done = R.on (subst (λ (x : List ℕ). Feeds M (room - length out) m h x (length rest + 0) [] m (cut (h ++ rest))) (append-nil rest) fed) in
      subst (λ (x : List ℕ). Feeds M room g l window (length window) out m (cut (h ++ x))) (sym rest-is)
      (subst (λ (k : ℕ). Feeds M room g l window k out m (cut (h ++ rest))) count
      (subst (λ (x : List ℕ). Feeds M room g l window (from + (length rest + 0)) x m (cut (h ++ rest))) (append-nil out) done))

-- a line that lies whole in the window is played where it lies
pub line-whole : {M : Machine} {g m : At M} {p out : List ℕ} → Line M g p out m → Line M g (cut ([] ++ p)) out m
line-whole {p = p} d = record { numbers = d.numbers; means = means-cut p d.numbers d.means; goes = d.goes }
