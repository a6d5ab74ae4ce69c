-- As many passwords open the object named as the program counts at its slot; and what one slot adds, by its cells.
use Prim.Native.Nat.{ℕ, zero, suc, ◌+◌, ◌-◌, ◌≤◌}
use mathlib.Core.Path.{◌≡◌, sym, ap, ◌∙◌}
use mathlib.Core.Logic.{◌≢◌}
use mathlib.Core.Bool.{Bool, true, false, not, ◌&&◌, and-false}
use mathlib.Core.List.{List}
use native.Mathlib.Omega.{arith}
use lib.Dec.{eqb}
use borrow.Author.Tests.{eqb-true, eq-eqb, ne_eqb}
use Rattle.rules.specs.Limit as Limit
use Rattle.rules.specs.Slots.{one, sum_over, count_over}
use Rattle.rules.specs.Store.{Name, State, same_name, cap_lives, object_named}
use Rattle.rules.specs.Valid.{Valid}
use Rattle.rules.specs.Rights.{has}
use Rattle.rules.specs.Refusals.{expired}
use Rattle.rules.specs.Questions.{opening}
use Rattle.rules.specs.Theorems.{holding, PasswordsCaps}
use Rattle.rules.proofs.Tests.{by_bool, bool_same, same-name, name-same, lives, does-live}
use Rattle.rules.proofs.Slots.{sum_same, sum-zero}
use Rattle.rules.proofs.Presenting.{named, named-is}
use Rattle.rules.proofs.Theorems.{passwords-caps}
use Rattle.layout.specs.Rows.{owner_of}
use Rattle.layout.specs.View.{view}
use Rattle.layout.proofs.Shown.{cap-object}
use Rattle.question_count.specs.Holding.{holds, holding_at}

module _ (s : State) (G : Valid s) (n : Name) (right : ℕ) where
  abbrev name_of : ℕ → Name
  name_of i = (s.object (s.cap i).object).name

  -- a living capability is of the object named where it is of its slot
  of-slot : (i : ℕ) → cap_lives s i ≡ true → same_name (name_of i) n ≡ eqb (s.cap i).object (object_named s n)
  of-slot i live =
      let h = lives s i live in
      let F = G.formed in
      let owned = (F.caps.live i h).owned in
      bool_same (same_name (name_of i) n) (eqb (s.cap i).object (object_named s n))
      (λ e. eq-eqb _ _ (sym (named-is s n F.objects (s.cap i).object owned (same-name (name_of i) n e))))
      (λ e.
      let q : (s.cap i).object ≡ object_named s n = eqb-true _ _ e in
      name-same (name_of i) n (ap (λ o. (s.object o).name) q ∙ named s n (λ z. h (q ∙ z))))

  -- it is not expired and holds the right
  abbrev grants : ℕ → Bool
  grants i = not (expired s i) && has (s.cap i).rights right

  held-so : (i : ℕ) → (cap_lives s i && same_name (name_of i) n && grants i)
      ≡ holds s (object_named s n) right i
  unfolding holds
  held-so i = by_bool (cap_lives s i) (λ e. rw (e, of-slot i e)) (λ e. rw e)

  pub opening-at : (me : ℕ) → opening s me n right ≡ holding_at s (object_named s n) right
  unfolding PasswordsCaps holding holding_at count_over
  opening-at me =
      passwords-caps s me n right G
      ∙ sum_same Limit.caps (λ i. one (cap_lives s i && same_name (name_of i) n && grants i))
      (λ i. one (holds s (object_named s n) right i)) (λ i _ _. ap one (held-so i))

-- no capability is of slot 0
pub holding-none : (s : State) (o right : ℕ) → o ≡ 0 → 0 ≡ holding_at s o right
unfolding holding_at holds cap_lives count_over one
holding-none s o right z = sym (sum-zero Limit.caps (λ i. one (holds s o right i)) (λ i _ _. rw z (none i)))
  where
    none : (i : ℕ) → one (not (eqb (s.cap i).object 0) && eqb (s.cap i).object 0
        && (not (expired s i) && has (s.cap i).rights right)) ≡ 0
    none i = by_bool (eqb (s.cap i).object 0) (λ e. rw e) (λ e. rw e)

-- ---- one slot, by its cells

module _ (b l w : List ℕ) (i o right : ℕ) where
  -- it is another object's, or free
  pub held-not : owner_of l i ≢ o → false ≡ holds (view b l w) o right i
  unfolding holds
  held-not ne = rw (cap-object b l w i, ne_eqb (owner_of l i) o ne, and-false (cap_lives (view b l w) i))

  -- it is the object's, and is not expired and holds the right as t says
  pub held_by : owner_of l i ≡ o → o ≢ 0 → (t : Bool)
      → (not (expired (view b l w) i) && has ((view b l w).cap i).rights right) ≡ t
      → t ≡ holds (view b l w) o right i
  unfolding holds
  held_by e nz t h =
      let q : ((view b l w).cap i).object ≡ o = cap-object b l w i ∙ e in
      rw (does-live (view b l w) i (λ z. nz (sym q ∙ z)), eq-eqb ((view b l w).cap i).object o q, h)

-- ---- slots are counted, of n at most n
pub one-most : (t : Bool) → one t ≤ 1
unfolding one
one-most true = omega arith
one-most false = omega arith

pub count-most : (n : ℕ) (t : ℕ → Bool) → count_over n t ≤ n
unfolding count_over sum_over
count-most zero t = omega arith
count-most (suc n) t = omega (arith, one-most (t (suc n)), count-most n t)

-- those below i: n up to the one before, m with it
pub count-next : (t : ℕ → Bool) (i n m : ℕ) → 1 ≤ i → n ≡ count_over (i - 1) t → m ≡ n + one (t i)
    → m ≡ count_over (i + 1 - 1) t
unfolding count_over sum_over
count-next t zero n m low e f = absurd (omega arith)
count-next t (suc i) n m low e f =
    let a : suc i - 1 ≡ i = omega arith in
    let b : suc i + 1 - 1 ≡ suc i = omega arith in
    rw b (omega (arith, rw a at e, f))
