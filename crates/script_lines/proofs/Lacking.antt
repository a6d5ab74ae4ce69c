-- What a line says in each field, also where it lacks its last day, or its limit and its last day: that is a line of
-- derive_cap.
use Prim.Native.Nat.{ℕ, ◌+◌, ◌-◌, ◌≤◌, ◌<◌}
use mathlib.Core.Path.{◌≡◌, refl, sym, ap, subst, ◌∙◌}
use mathlib.Core.Logic.{◌≢◌}
use mathlib.Core.Bool.{Bool, true, false, not, ◌&&◌, false≢true}
use mathlib.Core.List.{List, [], ◌∷◌, ◌++◌, append_assoc}
use native.Mathlib.Omega.{arith}
use lib.Dec.{eqb, leb}
use lib.ListN.{length, get_or, take, drop, length-take, length-drop, length-append, get_or-append}
use lib.Seq.{get_or-take, get_or-drop, get_or-append-add}
use borrow.Author.Tests.{eqb-true, eq-eqb, ne_eqb}
use Rattle.rules.specs.Limit as Limit
use Rattle.rules.specs.Rights.{Op, make_obj, read, write, cap_info, derive_cap, delete_cap, rename_obj, withdraw}
use Rattle.rules.specs.Rights.{deposit, suspend, resume, apply_lock, send, receive, wait, revive, unknown, op}
use Rattle.rules.specs.Fields as Fields
use Rattle.rules.specs.Fields.{Field, limit, last_day, fields, place}
use Rattle.rules.specs.Script.{nth, lacks, put_in, whole, number_at}
use Rattle.rules.proofs.Tests.{pick_yes, pick-not, all2}
use Rattle.script_lines.specs.Table.{places}
use Rattle.script_lines.specs.Lacking.{lacking, number_or}
use Rattle.script_lines.proofs.Rows.{Column, place_in}

-- ---- numbers put into a list at place q

put-in : (q : ℕ) (ns l : List ℕ) → put_in q ns l ≡ take q l ++ (ns ++ drop q l)
unfolding put_in
put-in q ns l = append_assoc (take q l) ns (drop q l)

put-long : (q : ℕ) (ns l : List ℕ) → length (put_in q ns l) ≡ length l + length ns
put-long q ns l =
    ap length (put-in q ns l) ∙ length-append (take q l) (ns ++ drop q l)
    ∙ omega (arith, length-append ns (drop q l), length-take q l, length-drop q l)

same_number : (l m : List ℕ) (p : ℕ) → nth l p ≡ nth m p → number_at l p ≡ number_at m p
unfolding number_at
same_number l m p e = ap (λ (x : ℕ). elim (eqb p 0) [ true ↦ 0 | false ↦ x ]) e

number_is : (l : List ℕ) (p : ℕ) → 1 ≤ p → number_at l p ≡ nth l p
unfolding number_at
number_is l p h = pick-not (eqb p 0) _ _ (ne_eqb p 0 (λ z. omega (arith, z)))

module _ (q : ℕ) (ns l : List ℕ) (h : q ≤ length l) where
  front : length (take q l) ≡ q
  front = length-take q l ∙ omega arith

  before : (i : ℕ) → i < q → nth (put_in q ns l) i ≡ nth l i
  before i g =
      ap (λ m. nth m i) (put-in q ns l)
      ∙ get_or-append (take q l) (ns ++ drop q l) 0 i (omega (arith, front))
      ∙ get_or-take q l i 0 g

  there : (i : ℕ) → nth (put_in q ns l) (q + i) ≡ nth (ns ++ drop q l) i
  there i =
      ap (λ m. nth m (q + i)) (put-in q ns l)
      ∙ ap (λ (k : ℕ). nth (take q l ++ (ns ++ drop q l)) (k + i)) (sym front)
      ∙ get_or-append-add (take q l) (ns ++ drop q l) i 0

  after : (i : ℕ) → nth (put_in q ns l) (q + (length ns + i)) ≡ nth l (q + i)
  after i = there (length ns + i) ∙ get_or-append-add ns (drop q l) i 0 ∙ get_or-drop q l i 0

  number-after : (p : ℕ) → 1 ≤ q → q + length ns ≤ p → number_at (put_in q ns l) p ≡ number_at l (p - length ns)
  number-after p low g =
      number_is _ p (omega arith)
      ∙ ap (nth (put_in q ns l)) (split (length ns) g)
      ∙ after (p - (q + length ns))
      ∙ ap (nth l) (less (length ns) g)
      ∙ sym (number_is l (p - length ns) (omega arith))
    where
      split : (n : ℕ) → q + n ≤ p → p ≡ q + (n + (p - (q + n)))
      split n g = omega arith

      less : (n : ℕ) → q + n ≤ p → q + (p - (q + n)) ≡ p - n
      less n g = omega arith

-- ---- the lines that lack them

lacks-derive : (n : ℕ) (o : Op) (l : List ℕ) → lacks n o l ≡ true → o ≡ derive_cap
unfolding lacks Fields.computes
lacks-derive n make_obj l e = absurd (false≢true e)
lacks-derive n read l e = absurd (false≢true e)
lacks-derive n write l e = absurd (false≢true e)
lacks-derive n cap_info l e = absurd (false≢true e)
lacks-derive n derive_cap l e = refl
lacks-derive n delete_cap l e = absurd (false≢true e)
lacks-derive n rename_obj l e = absurd (false≢true e)
lacks-derive n withdraw l e = absurd (false≢true e)
lacks-derive n deposit l e = absurd (false≢true e)
lacks-derive n suspend l e = absurd (false≢true e)
lacks-derive n resume l e = absurd (false≢true e)
lacks-derive n apply_lock l e = absurd (false≢true e)
lacks-derive n send l e = absurd (false≢true e)
lacks-derive n receive l e = absurd (false≢true e)
lacks-derive n wait l e = absurd (false≢true e)
lacks-derive n revive l e = absurd (false≢true e)
lacks-derive n unknown l e = absurd (false≢true e)

lacks-long : (n : ℕ) (o : Op) (l : List ℕ) → lacks n o l ≡ true → n + length l ≡ length (fields o)
unfolding lacks
lacks-long n o l e = eqb-true _ _ (all2 (not (eqb (place o last_day) 0)) (eqb (n + length l) (length (fields o))) e).1

-- what holds of derive_cap's lines that lack n holds of every call's
by-derive : (Q : Op → Type 0) (n : ℕ) (o : Op) (l : List ℕ) → (n + length l ≡ length (fields derive_cap) → Q derive_cap)
    → lacks n o l ≡ true → Q o
by-derive Q n o l f e =
    let d = lacks-derive n o l e in
    subst Q (sym d) (f (subst (λ x. n + length l ≡ length (fields x)) d (lacks-long n o l e)))

-- what holds of derive_cap's lines that lack one and two, and of a whole line, holds of every line
by-lacking : (P : Op → ℕ → List ℕ → Type 0) (o : Op) (l : List ℕ)
    → (1 + length l ≡ length (fields derive_cap)
    → P derive_cap 1 (put_in (place derive_cap last_day) (Limit.default_last_day ∷ []) l))
    → (2 + length l ≡ length (fields derive_cap)
    → P derive_cap 2 (put_in (place derive_cap limit) (Limit.default_limit ∷ Limit.default_last_day ∷ []) l))
    → P o 0 l → P o (lacking o l) (whole o l)
unfolding lacking whole
by-lacking P o l f g h = go (lacks 1 o l) (lacks 2 o l)
    (by-derive (λ x. P x 1 (put_in (place x last_day) (Limit.default_last_day ∷ []) l)) 1 o l f)
    (by-derive (λ x. P x 2 (put_in (place x limit) (Limit.default_limit ∷ Limit.default_last_day ∷ []) l)) 2 o l g)
  where
    go : (a b : Bool) {x y : List ℕ} → (a ≡ true → P o 1 x) → (b ≡ true → P o 2 y)
        → P o (elim a [ true ↦ 1 | false ↦ elim b [ true ↦ 2 | false ↦ 0 ] ])
        (elim a [ true ↦ x | false ↦ elim b [ true ↦ y | false ↦ l ] ])
    go true b f g = f refl
    go false true f g = g refl
    go false false f g = h

-- ---- a field, by its place in a whole line

-- before the limit
said-before : (f : Field) → place derive_cap f < place derive_cap limit → (o : Op) (l : List ℕ)
    → number_at (whole o l) (place o f) ≡ number_at l (place o f)
unfolding Fields.computes
said-before f h o l = by-lacking (λ x n m. number_at m (place x f) ≡ number_at l (place x f)) o l
    (λ e. same_number _ l _ (before _ _ l (omega (arith, e)) _ (omega (arith, h))))
    (λ e. same_number _ l _ (before _ _ l (omega (arith, e)) _ h))
    refl

-- after the last day
said-after : (f : Field) → place derive_cap last_day < place derive_cap f → (o : Op) (l : List ℕ)
    → number_at (whole o l) (place o f) ≡ number_at l (place o f - lacking o l)
unfolding Fields.computes
said-after f h o l = by-lacking (λ x n m. number_at m (place x f) ≡ number_at l (place x f - n)) o l
    (λ e. number-after _ _ l (omega (arith, e)) (place derive_cap f) (omega arith) h)
    (λ e. number-after _ _ l (omega (arith, e)) (place derive_cap f) (omega arith) h)
    (ap (number_at l) (none (place o f)))
  where
    none : (p : ℕ) → p ≡ p - 0
    none p = omega arith

said-limit : (o : Op) (l : List ℕ)
    → number_at (whole o l) (place o limit) ≡ number_or (leb 2 (lacking o l)) Limit.default_limit l (place o limit)
unfolding Fields.computes number_at number_or
said-limit o l =
    by-lacking (λ x n m. number_at m (place x limit) ≡ number_or (leb 2 n) Limit.default_limit l (place x limit)) o l
    (λ e. before _ _ l (omega (arith, e)) _ (omega arith))
    (λ e. there _ _ l (omega (arith, e)) 0)
    refl

said-last-day : (o : Op) (l : List ℕ)
    → number_at (whole o l) (place o last_day) ≡ number_or (leb 1 (lacking o l)) Limit.default_last_day l (place o last_day)
unfolding Fields.computes number_at number_or
said-last-day o l =
    by-lacking (λ x n m. number_at m (place x last_day) ≡ number_or (leb 1 n) Limit.default_last_day l (place x last_day)) o l
    (λ e. there _ _ l (omega (arith, e)) 0)
    (λ e. there (place derive_cap limit) _ l (omega (arith, e)) 1)
    refl

pub whole_long : (o : Op) (l : List ℕ) → length (whole o l) ≡ length l + lacking o l
whole_long o l =
    by-lacking (λ x n m. length m ≡ length l + n) o l (λ _. put-long _ _ l) (λ _. put-long _ _ l) (omega arith)

-- ---- as the code goes: a is the place of the last day, b the number of fields

lacks-none : (n : ℕ) (o : Op) (l : List ℕ) → place o last_day ≡ 0 → lacks n o l ≡ false
unfolding lacks
lacks-none n o l z = ap (λ x. not x && eqb (n + length l) (length (fields o))) (eq-eqb (place o last_day) 0 z)

lacking-zero : (o : Op) (l : List ℕ) → lacks 1 o l ≡ false → lacks 2 o l ≡ false → 0 ≡ lacking o l
unfolding lacking
lacking-zero o l e f = sym (pick-not (lacks 1 o l) _ _ e ∙ pick-not (lacks 2 o l) _ _ f)

pub lacking-none : (o : Op) (l : List ℕ) (a : ℕ) → a ≡ place o last_day → a ≡ 0 → 0 ≡ lacking o l
lacking-none o l a e z = lacking-zero o l (lacks-none 1 o l (sym e ∙ z)) (lacks-none 2 o l (sym e ∙ z))

module _ (o : Op) (l : List ℕ) (a b : ℕ) (e : a ≡ place o last_day) (h : a ≢ 0) (f : b ≡ length (fields o)) where
  lacks-is : (n : ℕ) → lacks n o l ≡ eqb (n + length l) b
  unfolding lacks
  lacks-is n =
      ap (λ x. not x && eqb (n + length l) (length (fields o))) (ne_eqb (place o last_day) 0 (λ z. h (e ∙ z)))
      ∙ ap (eqb (n + length l)) (sym f)

  does : (n : ℕ) → length l + n ≡ b → lacks n o l ≡ true
  does n g = lacks-is n ∙ eq-eqb (n + length l) b (omega (arith, g))

  not_so : (n : ℕ) → length l + n ≢ b → lacks n o l ≡ false
  not_so n g = lacks-is n ∙ ne_eqb (n + length l) b (λ z. g (omega (arith, z)))

  pub lacking-one : length l + 1 ≡ b → 1 ≡ lacking o l
  unfolding lacking
  lacking-one g = sym (pick_yes (lacks 1 o l) _ _ (does 1 g))

  pub lacking-two : length l + 1 ≢ b → length l + 2 ≡ b → 2 ≡ lacking o l
  unfolding lacking
  lacking-two k g = sym (pick-not (lacks 1 o l) _ _ (not_so 1 k) ∙ pick_yes (lacks 2 o l) _ _ (does 2 g))

  pub lacking-other : length l + 1 ≢ b → length l + 2 ≢ b → 0 ≡ lacking o l
  lacking-other k g = lacking-zero o l (not_so 1 k) (not_so 2 g)

-- ---- by the table: k is the column of n

pub said_in : (f : Field) → place derive_cap f < place derive_cap limit → (l : List ℕ) (k n v : ℕ) → Column k n
    → v ≡ number_at l (get_or (places f) k 0) → v ≡ number_at (whole (op n) l) (place (op n) f)
said_in f h l k n v e is = is ∙ ap (number_at l) (place_in f k n e) ∙ sym (said-before f h (op n) l)

-- of a field whose number hangs on how many the line lacks, as g says
said-by : (g : ℕ → List ℕ → ℕ → ℕ) (f : Field)
    → ((o : Op) (l : List ℕ) → number_at (whole o l) (place o f) ≡ g (lacking o l) l (place o f))
    → (l : List ℕ) (b k n v : ℕ) → Column k n → b ≡ lacking (op k) l
    → v ≡ g b l (get_or (places f) k 0) → v ≡ number_at (whole (op n) l) (place (op n) f)
said-by g f said l b k n v e lacks is =
    is
    ∙ ap (g b l) (place_in f k n e)
    ∙ ap (λ x. g x l (place (op n) f)) (lacks ∙ ap (λ (o : Op). lacking o l) e.1)
    ∙ sym (said (op n) l)

pub after-in : (f : Field) → place derive_cap last_day < place derive_cap f → (l : List ℕ) (b k n v : ℕ) → Column k n
    → b ≡ lacking (op k) l → v ≡ number_at l (get_or (places f) k 0 - b) → v ≡ number_at (whole (op n) l) (place (op n) f)
after-in f h = said-by (λ b l p. number_at l (p - b)) f (said-after f h)

pub limit-in : (l : List ℕ) (b k n v : ℕ) → Column k n → b ≡ lacking (op k) l
    → v ≡ number_or (leb 2 b) Limit.default_limit l (get_or (places limit) k 0)
    → v ≡ number_at (whole (op n) l) (place (op n) limit)
limit-in = said-by (λ b l p. number_or (leb 2 b) Limit.default_limit l p) limit said-limit

pub last-day-in : (l : List ℕ) (b k n v : ℕ) → Column k n → b ≡ lacking (op k) l
    → v ≡ number_or (leb 1 b) Limit.default_last_day l (get_or (places last_day) k 0)
    → v ≡ number_at (whole (op n) l) (place (op n) last_day)
last-day-in = said-by (λ b l p. number_or (leb 1 b) Limit.default_last_day l p) last_day said-last-day
