-- A turn, and the end of the input, are functions of what comes in, where what the lines are played on is exact.
use Prim.Native.Nat.{ℕ, suc, ◌+◌, ◌-◌, ◌<◌}
use mathlib.Core.Path.{◌≡◌, refl, sym, ap, ◌∙◌, subst}
use mathlib.Core.List.{List, [], ◌++◌}
use native.Mathlib.Omega.{arith}
use lib.ListN.{length, length-append}
use Rattle.script_text.proofs.Sayings.{means-same}
use Rattle.script_driver.specs.Machine.{Machine, Exact}
use Rattle.script_driver.specs.Turns.{playing, At, Goes, good, bad, unplayed, later, Line, ANSWER}
use Rattle.script_driver.specs.Turns.{Closes, absent, refused, totals, Feeds, all, full, held, ended, Ends, none, last}

-- ---- how far a turn comes

-- it stops early for lack of room alone
pub feeds-stop : {M : Machine} {room n : ℕ} {g g' : At M} {l l' window out : List ℕ} → Feeds M room g l window n out g' l'
    → n < length window → room < length out + ANSWER
feeds-stop all h = absurd (omega arith)
feeds-stop (full r) h = omega arith
feeds-stop (held r ne f) h = feeds-stop f (omega arith)
feeds-stop (ended {out = o} {text = t} r d f) h = omega (arith, feeds-stop f (omega arith), length-append o t)

-- ---- exact

module _ {M : Machine} (E : Exact M) where
  goes_same : {g m q : At M} {ns out text : List ℕ} → Goes M g ns out m → Goes M g ns text q → (out ≡ text) × (m ≡ q)
  goes_same {ns = ns} (good {s = s} e b) (good {s = t} f c) = (refl, ap (λ (x : M.Store). playing 1 x) (E.begins ns s t b c))
  goes_same (good e b) (bad f) = absurd (f e)
  goes_same (bad e) (good f c) = absurd (e f)
  goes_same (bad e) (bad f) = (refl, refl)
  goes_same unplayed unplayed = (refl, refl)
  goes_same {ns = ns} {out = out} {text = text} (later {k = k} {s = s} {s' = s'} p) (later {s' = t'} q) =
      let x = E.plays k s ns out text s' t' p q in (x.0, ap (λ (y : M.Store). playing (suc k) y) x.1)

  line_same : {g m q : At M} {l out text : List ℕ} → Line M g l out m → Line M g l text q → (out ≡ text) × (m ≡ q)
  line_same {g} {q = q} {l = l} {text = text} d e = goes_same d.goes
      (subst (λ (ns : List ℕ). Goes M g ns text q) (means-same l e.numbers d.numbers e.means d.means) e.goes)

  closes-same : {g : At M} {out text : List ℕ} → Closes M g out → Closes M g text → out ≡ text
  closes-same (absent e) (absent f) = e ∙ sym f
  closes-same (refused e) (refused f) = e ∙ sym f
  closes-same {out = out} {text = text} (totals {s = s} e) (totals f) = E.totals s out text e f

  pub ends_same : {g : At M} {l out text : List ℕ} → Ends M g l out → Ends M g l text → out ≡ text
  ends_same (none c) (none d) = closes-same c d
  ends_same (last {m = m} {out = o} {text = t} d c) (last {m = q} {out = p} {text = u} e f) =
      let x = line_same d e in
      let y : t ≡ u = closes-same c (subst (λ (z : At M). Closes M z u) (sym x.1) f) in
      ap (λ (z : List ℕ). z ++ t) x.0 ∙ ap (λ (z : List ℕ). p ++ z) y

  pub record Same (n : ℕ) (out : List ℕ) (g : At M) (l : List ℕ) (n' : ℕ) (out' : List ℕ) (g' : At M) (l' : List ℕ) : Type 0 where
    pub count : n ≡ n'
    pub text : out ≡ out'
    pub stage : g ≡ g'
    pub left : l ≡ l'

  pub feeds-same : {room n n' : ℕ} {g h h' : At M} {l i i' window out out' : List ℕ} → Feeds M room g l window n out h i
      → Feeds M room g l window n' out' h' i' → Same n out h i n' out' h' i'
  feeds-same all all = record { count = refl; text = refl; stage = refl; left = refl }
  feeds-same all (full s) = record { count = refl; text = refl; stage = refl; left = refl }
  feeds-same (full r) all = record { count = refl; text = refl; stage = refl; left = refl }
  feeds-same (full r) (full s) = record { count = refl; text = refl; stage = refl; left = refl }
  feeds-same (full r) (held s ne f) = absurd (omega arith)
  feeds-same (full r) (ended s d f) = absurd (omega arith)
  feeds-same (held r ne f) (full s) = absurd (omega arith)
  feeds-same (held r ne f) (held s me e) =
      let x = feeds-same f e in record { count = ap suc x.count; text = x.text; stage = x.stage; left = x.left }
  feeds-same (held r ne f) (ended s d e) = absurd (ne refl)
  feeds-same (ended r d f) (full s) = absurd (omega arith)
  feeds-same (ended r d f) (held s me e) = absurd (me refl)
  feeds-same {h' = h'} {i' = i'} (ended {room = room} {n = n} {m = m} {window = w} {out = o} {text = t} r d f)
      (ended {n = n'} {m = q} {out = p} {text = u} s e k) =
      let z = line_same d e in
      let a = subst (λ (y : At M). Feeds M (room - length p) y [] w n' u h' i') (sym z.1) k in
      let b = subst (λ (y : List ℕ). Feeds M (room - length y) m [] w n' u h' i') (sym z.0) a in
      let x = feeds-same f b in record {
        count = ap suc x.count;
        text = ap (λ (y : List ℕ). y ++ t) z.0 ∙ ap (λ (y : List ℕ). p ++ y) x.text;
        stage = x.stage;
        left = x.left;
      }
