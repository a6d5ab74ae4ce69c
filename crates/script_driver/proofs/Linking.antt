-- The facts that the code's proofs cite.
use Prim.Native.Nat.{ℕ, zero, suc, ◌+◌, ◌-◌, ◌≤◌, ◌<◌, min}
use mathlib.Core.Path.{◌≡◌, refl, sym, ap, ◌∙◌, subst}
use mathlib.Core.Bool.{Bool, true, false, not}
use mathlib.Core.List.{List, [], ◌∷◌, ◌++◌, append-nil}
use native.Mathlib.Omega.{arith}
use native.Mathlib.Numerals.{add-one}
use lib.Dec.{leb}
use lib.ListN.{length, take, length-take}
use borrow.Author.Tests.{leb-true, leb-false}
use Rattle.rules.proofs.Tests.{by_bool}
use lib.Seq.{take_all, length-take-le}
use Rattle.layout.specs.WellFormed.{WellFormed}
use Rattle.script_text.specs.Lines.{part, EndsLine}
use Rattle.layout.specs.View.{view}
use Rattle.script_text.specs.Numeral.{line_of}
use Rattle.script_text.specs.Pasted.{Wrote, Put}
use Rattle.script_answers.specs.Room.{REFUSAL, TOTALS}
use Rattle.script_answers.specs.Ends.{totals_line, TotalsAsk}
use Rattle.script_text.proofs.Pasting.{wrote_none, wrote_then}
use Rattle.script_play.specs.Plays.{Plays, Unchanged}
use Rattle.script_play.specs.Starts.{Starts}
use Rattle.script_driver.specs.Turns.{opening, closed, playing, At, Line, Closes, absent, refused, totals, HELD, cut, Feeds, ANSWER, Ends, none, last}
use Rattle.script_driver.specs.Stores.{Store, Formed, stores}
use Rattle.script_driver.specs.Contract as Contract
use Rattle.script_driver.specs.Contract.{LAST, stage_by, stage_of, Feeding}
use Rattle.script_driver.proofs.Bridging.{first-line, closed-line, later-line}
use Rattle.script_driver.proofs.Looping.{Reached, reached-none, reached-line, reached-all, reached-full, reached-held, line-whole}
use Rattle.script_driver.specs.declared.Run.{Run}
use Rattle.script_driver.specs.Parts.{store, run_of, Holds, FirstLine, OneLine, EndedLine, EndAsks, EndPut}

-- ---- stages

at-closed : (n : ℕ) (b : Bool) (s : Store) → b ≡ true → stage_by n b s ≡ closed
unfolding stage_by
at-closed n b s e = ap (λ x. stage_by n x s) e

at-opening : (n : ℕ) (b : Bool) (s : Store) → b ≡ false → n ≡ 0 → stage_by n b s ≡ opening
unfolding stage_by
at-opening n b s e z = ap (λ x. stage_by n x s) e ∙ ap (λ x. stage_by x false s) z

at_some : (n : ℕ) (s : Store) → (n ≡ 0 → ⊥) → stage_by n false s ≡ playing n s
unfolding stage_by
at_some zero s h = absurd (h refl)
at_some (suc n) s h = refl

at-playing : (n : ℕ) (b : Bool) (s : Store) → b ≡ false → (n ≡ 0 → ⊥) → stage_by n b s ≡ playing n s
at-playing n b s e h = ap (λ x. stage_by n x s) e ∙ at_some n s h

moved-line : {g g' m m' : At stores} {l out : List ℕ} → g ≡ g' → m ≡ m' → Line stores g' l out m' → Line stores g l out m
moved-line {g} {g'} {m} {m'} {l} {out} e f d =
    subst (λ x. Line stores x l out m) (sym e) (subst (λ x. Line stores g' l out x) (sym f) d)

-- ---- a line

pub one-bad : {s : Store} {line out : List ℕ} {at number : ℕ} {bad : Bool} → bad ≡ true → Formed s
    → OneLine s line out at number bad s out (record { number = number; bad = true; count = 0; at = at })
one-bad {s} {line} {out} {at} {number} {bad} e f = record {
  text = [];
  is = moved-line (at-closed number bad s e) (at-closed number true s refl) (closed-line line);
  wrote = wrote_none out at;
  few = omega arith;
  formed = f;
  counted = omega arith;
  none = refl;
}

pub first_good : {b l w b' l' w' line : List ℕ} {at : ℕ} {r : Bool} → Starts line b l w b' l' w' r → r ≡ true
    → FirstLine line at (store b' l' w') (record { number = 1; bad = false; count = 0; at = at })
first_good {b' = b'} {l'} {w'} h y = record {
  is = moved-line refl (ap (λ x. stage_by 1 (not x) (store b' l' w')) (sym y)) (first-line h);
  formed = (h.made.good y).formed;
  counted = omega arith;
  none = refl;
  place = refl;
}

unchanged-formed : {b l w b' l' w' : List ℕ} → Unchanged b l w b' l' w' → WellFormed b l w → WellFormed b' l' w'
unchanged-formed u f = rw (u.bytes, u.links, u.words) f

pub first-refused : {b l w b' l' w' line : List ℕ} {at : ℕ} {r : Bool} → Starts line b l w b' l' w' r → r ≡ false → WellFormed b l w
    → FirstLine line at (store b' l' w') (record { number = 0; bad = true; count = 0; at = at })
first-refused {b' = b'} {l'} {w'} {r = r} h y f = record {
  is = moved-line refl (at-closed 0 true (store b' l' w') refl ∙ sym (at-closed 1 (not r) (store b' l' w') (ap not y))) (first-line h);
  formed = unchanged-formed (h.made.bad y) f;
  counted = omega arith;
  none = refl;
  place = refl;
}

pub one-first : {s s' : Store} {line out : List ℕ} {at number : ℕ} {bad : Bool} {r : Run} → bad ≡ false → number ≡ 0
    → FirstLine line at s' r → OneLine s line out at number bad s' out r
one-first {s} {s'} {line} {out} {at} {number} {bad} e z h = record {
  text = [];
  is = moved-line (at-opening number bad s e z) refl h.is;
  wrote = subst (λ (k : ℕ). Wrote out at [] out k) (sym h.place) (wrote_none out at);
  few = omega arith;
  formed = h.formed;
  counted = omega (arith, h.counted);
  none = h.none;
}

pub one_later : {b l w b' l' w' line out out' : List ℕ} {at number p : ℕ} {bad : Bool} → bad ≡ false → (number ≡ 0 → ⊥)
    → Plays line number b l w b' l' w' out at out' p
    → OneLine (store b l w) line out at number bad (store b' l' w') out' (record { number = number + 1; bad = false; count = 0; at = p })
one_later {b} {l} {w} {b'} {l'} {w'} {line} {out} {out'} {at} {number} {p} {bad} e n h =
    let x = later-line h in record {
      text = x.text;
      is = moved-line (at-playing number bad (store b l w) e n)
          (at-playing (number + 1) false (store b' l' w') refl (λ z. omega arith) ∙ ap (λ k. playing k (store b' l' w')) (add-one number)) x.is;
      wrote = x.wrote;
      few = omega (arith, x.few);
      formed = h.played.formed;
      counted = omega arith;
      none = refl;
    }

-- ---- what is held

take-over : (h y : List ℕ) (m n : ℕ) → m ≡ length h + n → take m (h ++ y) ≡ h ++ take n y
take-over [] y m n e = let z : m ≡ n = omega arith in ap (λ k. take k y) z
take-over (x ∷ h) y zero n e = absurd (omega arith)
take-over (x ∷ h) y (suc m) n e = ap (λ (l : List ℕ). x ∷ l) (take-over h y m n (omega arith))

take_min : (a : ℕ) (l : List ℕ) → take a l ≡ take (min a (length l)) l
take_min a l = by_bool (leb a (length l))
    (λ e. let h : a ≤ length l = leb-true a (length l) e in let z : a ≡ min a (length l) = omega arith in ap (λ k. take k l) z)
    (λ e.
    let h : length l < a = leb-false a (length l) e in
    take_all a l (omega arith) ∙ sym (take_all (min a (length l)) l (omega arith)))

cut-held : (held part : List ℕ) (count n : ℕ) → length held ≡ HELD → count ≤ HELD → n ≡ min (HELD - count) (length part)
    → cut (take count held ++ part) ≡ take count held ++ take n part
unfolding cut
cut-held held part count n size few e =
    let long : length (take count held) ≡ count = length-take-le count held (omega arith) in
    take-over (take count held) part HELD (HELD - count) (omega arith)
    ∙ ap (λ (l : List ℕ). take count held ++ l) (take_min (HELD - count) part ∙ ap (λ k. take k part) (sym e))

pub hold-is : (held part back rest : List ℕ) (count n : ℕ) → length held ≡ HELD → count ≤ HELD → n ≡ min (HELD - count) (length part)
    → back ≡ take n part → Holds held count part (take count held ++ (back ++ rest)) (count + n)
hold-is held part back rest count n size few e b =
    let p : List ℕ = take n part in
    let long : length (take count held) ≡ count = length-take-le count held (omega arith) in
    let short : length p ≡ n = length-take-le n part (omega arith) in
    let front : back ++ rest ≡ p ++ rest = ap (λ (l : List ℕ). l ++ rest) b in
    record {
      is = take-over (take count held) (back ++ rest) (count + n) n (omega arith)
          ∙ ap (λ (l : List ℕ). take count held ++ l) (ap (take n) front ∙ take-over p rest n 0 (omega arith) ∙ append-nil p)
          ∙ sym (cut-held held part count n size few e);
      few = omega arith;
    }

-- ---- a line of which bytes are held

as_line : {s s' : Store} {l m out out' : List ℕ} {at number : ℕ} {bad : Bool} {r : Run}
    → ((g q : At stores) (t : List ℕ) → Line stores g l t q → Line stores g m t q)
    → OneLine s l out at number bad s' out' r → OneLine s m out at number bad s' out' r
as_line f x = record {
  text = x.text;
  is = f _ _ x.text x.is;
  wrote = x.wrote;
  few = x.few;
  formed = x.formed;
  counted = x.counted;
  none = x.none;
}

pub ended-whole : {s s' : Store} {held part out out' : List ℕ} {run r : Run} → run.count ≡ 0
    → length held ≡ HELD → OneLine s part out run.at run.number run.bad s' out' r → EndedLine s held part out run s' held out' r
ended-whole {held = held} {part = part} z size x = record {
  one = as_line (λ g q t d. subst (λ (l : List ℕ). Line stores g l t q) (ap (λ k. cut (take k held ++ part)) (sym z)) (line-whole d)) x;
  size = size;
}

pub ended_held : {s s' : Store} {held held' part out out' : List ℕ} {n : ℕ} {run r : Run}
    → Holds held run.count part held' n → length held' ≡ HELD → OneLine s (take n held') out run.at run.number run.bad s' out' r
    → EndedLine s held part out run s' held' out' r
ended_held h size x = record {
  one = as_line (λ g q t d. subst (λ (l : List ℕ). Line stores g l t q) h.is d) x;
  size = size;
}

-- ---- the loop over the lines of a window

none-held : (held : List ℕ) (count : ℕ) → count ≡ 0 → take count held ≡ []
none-held held count e = ap (λ k. take k held) e

-- the bytes before place `from` were fed
pub record Inv (b₀ l₀ w₀ held₀ window out₀ : List ℕ) (run₀ : Run) (b l w held out : List ℕ) (run : Run) (from : ℕ) : Type 0 where
  pub text : List ℕ
  pub reached : Reached stores (length out₀ - run₀.at) (stage_of (run_of run₀) (store b₀ l₀ w₀)) (take run₀.count held₀) window from text
      (stage_of (run_of run) (store b l w)) (take run.count held)
  pub wrote : Wrote out₀ run₀.at text out run.at
  pub long : length out ≡ length out₀
  pub place : run.at ≤ length out
  pub formed : WellFormed b l w
  pub size : length held ≡ HELD
  pub few : run.count ≤ HELD
  pub counted : run.number ≤ run₀.number + from
  pub start : run₀.at ≤ length out₀
  pub total : run₀.number + length window ≤ LAST

held_cut : (held : List ℕ) (count : ℕ) → count ≤ HELD → take count held ≡ cut (take count held)
unfolding cut
held_cut held count few = sym (take_all HELD (take count held) (omega (arith, length-take count held)))

pub inv-start : {b l w held window out : List ℕ} {r : Run} → Contract.FeedAsks (store b l w) held (run_of r) window out r.at
    → Inv b l w held window out r b l w held out r 0
inv-start {held = held} {out = out} {r = r} a = record {
  text = [];
  reached = reached-none (held_cut held r.count a.stands.few);
  wrote = wrote_none out r.at;
  long = refl;
  place = a.place;
  formed = a.stands.formed;
  size = a.stands.size;
  few = a.stands.few;
  counted = omega arith;
  start = a.place;
  total = a.counted;
}

module _ {b₀ l₀ w₀ held₀ window out₀ : List ℕ} {run₀ : Run} {b l w held out : List ℕ} {run : Run} {from : ℕ}
    (i : Inv b₀ l₀ w₀ held₀ window out₀ run₀ b l w held out run from) where
  room : ANSWER ≤ length out - run.at → ANSWER ≤ length out₀ - run₀.at - length i.text
  room h = omega (arith, i.wrote.end, i.long)

  pub inv-line : {b' l' w' held' out' : List ℕ} {r : ℕ} {x : Run} → ANSWER ≤ length out - run.at → EndsLine window from (length window) r
      → (r ≡ length window → ⊥) → EndedLine (store b l w) held (part from r window) out run (store b' l' w') held' out' x
      → length out' ≡ length out → Inv b₀ l₀ w₀ held₀ window out₀ run₀ b' l' w' held' out' x (r + 1)
  inv-line {b'} {l'} {w'} {held'} {r = r} {x = x} h e ne d long =
      let inside : r < length window = omega (arith, e.high) in record {
        text = i.text ++ d.one.text;
        reached = subst (λ (z : List ℕ). Reached stores (length out₀ - run₀.at) (stage_of (run_of run₀) (store b₀ l₀ w₀)) (take run₀.count held₀)
            window (r + 1) (i.text ++ d.one.text) (stage_of (run_of x) (store b' l' w')) z)
            (sym (none-held held' x.count d.one.none)) (reached-line i.reached r e inside (room h) d.one.is);
        wrote = wrote_then i.wrote d.one.wrote i.start;
        long = long ∙ i.long;
        place = omega (arith, d.one.wrote.end, d.one.few);
        formed = d.one.formed;
        size = d.size;
        few = omega (arith, d.one.none);
        counted = omega (arith, d.one.counted, i.counted, e.low);
        start = i.start;
        total = i.total;
      }

  -- so many bytes of the window are taken, and n are held
  abbrev Fed-to : List ℕ → ℕ → ℕ → Type 0
  Fed-to held' n taken = Feeding (store b₀ l₀ w₀) held₀ (run_of run₀) window out₀ run₀.at (store b l w) held' out
      (record { run = record { number = run.number; bad = run.bad; count = n }; taken = taken; at = run.at })

  fed : {held' : List ℕ} {n taken : ℕ} → Feeds stores (length out₀ - run₀.at) (stage_of (run_of run₀) (store b₀ l₀ w₀)) (take run₀.count held₀)
      window taken i.text (stage_of (run_of run) (store b l w)) (take n held') → length held' ≡ HELD → n ≤ HELD → from ≤ taken
      → Fed-to held' n taken
  fed f size few low = record {
    text = i.text;
    feeds = f;
    wrote = i.wrote;
    stands = record { formed = i.formed; size = size; few = few };
    place = i.place;
    number = omega (arith, i.counted);
  }

  pub feed-all : length window ≤ from → Fed-to held run.count from
  feed-all h = fed (reached-all i.reached (omega (arith, i.reached.within))) i.size i.few (omega arith)

  pub feed-full : length out - run.at < ANSWER → Fed-to held run.count from
  feed-full h = fed (reached-full i.reached (omega (arith, i.wrote.end, i.long))) i.size i.few (omega arith)

  pub feed-held : {held' : List ℕ} {r n : ℕ} → ANSWER ≤ length out - run.at → EndsLine window from (length window) r → r ≡ length window
      → Holds held run.count (part from (length window) window) held' n → length held' ≡ HELD → Fed-to held' n r
  feed-held {held'} {r} {n} h e z hs size = fed
      (subst (λ k. Feeds stores (length out₀ - run₀.at) (stage_of (run_of run₀) (store b₀ l₀ w₀)) (take run₀.count held₀) window k i.text
      (stage_of (run_of run) (store b l w)) (take n held')) (sym z)
      (subst (λ (y : List ℕ). Feeds stores (length out₀ - run₀.at) (stage_of (run_of run₀) (store b₀ l₀ w₀)) (take run₀.count held₀) window (length window) i.text
      (stage_of (run_of run) (store b l w)) y) (sym hs.is) (reached-held i.reached e z (room h))))
      size hs.few e.low

pub room_for : (size p : ℕ) → p ≤ size → ANSWER ≤ size - p → p + ANSWER ≤ size
room_for size p h g = omega arith

-- ---- the end of the input

pub end-bad : {s : Store} {out out' : List ℕ} {r : ℕ} {run : Run} → run.bad ≡ true → Put REFUSAL out run.at (line_of (0 ∷ 2 ∷ [])) out' r
    → EndPut s out run out' r
end-bad {s} {run = run} e p = record {
  text = line_of (0 ∷ 2 ∷ []);
  closes = subst (λ g. Closes stores g (line_of (0 ∷ 2 ∷ []))) (sym (at-closed run.number run.bad s e)) (refused refl);
  wrote = p.wrote;
  few = omega (arith, p.room, p.wrote.end);
}

pub end-absent : {s : Store} {out out' : List ℕ} {r : ℕ} {run : Run} → run.bad ≡ false → run.number ≡ 0
    → Put REFUSAL out run.at (line_of (0 ∷ 2 ∷ [])) out' r → EndPut s out run out' r
end-absent {s} {run = run} e z p = record {
  text = line_of (0 ∷ 2 ∷ []);
  closes = subst (λ g. Closes stores g (line_of (0 ∷ 2 ∷ []))) (sym (at-opening run.number run.bad s e z)) (absent refl);
  wrote = p.wrote;
  few = omega (arith, p.room, p.wrote.end);
}

pub end-totals : {b l w out out' : List ℕ} {r : ℕ} {run : Run} → run.bad ≡ false → (run.number ≡ 0 → ⊥)
    → Put TOTALS out run.at (totals_line (view b l w)) out' r → EndPut (store b l w) out run out' r
end-totals {b} {l} {w} {run = run} e n p = record {
  text = totals_line (view b l w);
  closes = subst (λ g. Closes stores g (totals_line (view b l w))) (sym (at-playing run.number run.bad (store b l w) e n)) (totals refl);
  wrote = p.wrote;
  few = omega (arith, p.room, p.wrote.end);
}

pub totals-ask : {b l w out : List ℕ} {at : ℕ} → EndAsks (store b l w) out at → TotalsAsk b l w at out
totals-ask a = record { sized = a.formed.sized; total = a.formed.valid.total; room = a.room }

ends_some : {g m : At stores} {out text : List ℕ} (l : List ℕ) → 1 ≤ length l → Line stores g l out m → Closes stores m text
    → Ends stores g l (out ++ text)
ends_some [] h d c = absurd (omega arith)
ends_some (b ∷ l) h d c = last d c

pub finish-none : {s : Store} {held out out' : List ℕ} {r : ℕ} {q : Run} → Contract.FinishAsks s held (run_of q) out q.at → q.count ≡ 0
    → EndPut s out q out' r → length out' ≡ length out → Contract.Finishing s held (run_of q) out q.at s out' r
finish-none {s} {held} {q = q} a z p long = record {
  text = p.text;
  ends = subst (λ (l : List ℕ). Ends stores (stage_of (run_of q) s) l p.text) (sym (none-held held q.count z)) (none p.closes);
  wrote = p.wrote;
  formed = a.stands.formed;
  place = omega (arith, p.wrote.end, p.few, a.room);
}

pub finish-last : {s s' : Store} {held out mid out' : List ℕ} {r : ℕ} {q x : Run}
    → Contract.FinishAsks s held (run_of q) out q.at → (q.count ≡ 0 → ⊥) → OneLine s (take q.count held) out q.at q.number q.bad s' mid x
    → EndPut s' mid x out' r → length out' ≡ length mid → length mid ≡ length out
    → Contract.Finishing s held (run_of q) out q.at s' out' r
finish-last {held = held} {q = q} a z d p long same = record {
  text = d.text ++ p.text;
  ends = ends_some (take q.count held)
      (omega (arith, length-take-le q.count held (omega (arith, a.stands.few, a.stands.size)))) d.is p.closes;
  wrote = wrote_then d.wrote p.wrote (omega (arith, a.room));
  formed = d.formed;
  place = omega (arith, p.wrote.end, p.few, d.wrote.end, d.few, a.room);
}

pub end-room : {s s' : Store} {held line out mid : List ℕ} {q x : Run}
    → Contract.FinishAsks s held (run_of q) out q.at → OneLine s line out q.at q.number q.bad s' mid x → length mid ≡ length out → EndAsks s' mid x.at
end-room a d same = record { formed = d.formed; room = omega (arith, d.wrote.end, d.few, a.room) }
