-- The caller: what the cells say of a slot's name, and of whether it runs.
use Prim.Native.Nat.{ℕ, ◌+◌, ◌≤◌}
use mathlib.Core.Path.{◌≡◌, refl, sym, ◌∙◌}
use mathlib.Core.Logic.{◌≢◌}
use mathlib.Core.Bool.{Bool, true, false, not, ◌&&◌, ◌||◌, and-false, false≢true}
use mathlib.Core.List.{List}
use native.Mathlib.Omega.{arith}
use lib.Dec.{eqb}
use lib.ListN.{get_or}
use borrow.Author.Tests.{eq-eqb, ne_eqb, eqb-true}
use Rattle.rules.specs.Store.{Name, State, same_name, no_object, object_named}
use Rattle.rules.specs.Slots.{find}
use Rattle.rules.specs.Refusals.{running}
use Rattle.rules.proofs.Tests.{all2, by-eq, refuted}
use Rattle.layout.specs.Layout as Layout
use Rattle.layout.specs.Rows.{master_of, flag_of}
use Rattle.layout.specs.View.{is_set, is_process, view}
use Rattle.layout.proofs.Field.{row, field_out}
use Rattle.layout.proofs.Shown.{process-no, process-is, process-lives}
use Rattle.layout.proofs.Shown.{object-here, object-none, object-shown, marks-here}
use Rattle.call_steps.specs.Tests.{ObjectSlot, SameFrom, named, unmarked, cell_is}
use Rattle.call_steps.proofs.Finding.{find-le, same-fewer}

-- ---- names

pub named-found : (s : State) (n : Name) → object_named s n ≡ find 64 (named s n)
unfolding object_named named
named-found s n = refl

module _ (b l w : List ℕ) (n : Name) (o : ℕ) (at : ObjectSlot o) where
  -- a free slot has no name
  pub named_none : get_or l (Layout.MASTER + o) 0 ≡ 0 → false ≡ named (view b l w) n o
  unfolding named no_object
  named_none z = rw (object-none b l w o (row Layout.MASTER l o at ∙ z))

  module _ (alive : get_or l (Layout.MASTER + o) 0 ≢ 0) where
    named_here : named (view b l w) n o
        ≡ (eqb (get_or b (Layout.VOLUME + o) 0) n.volume && eqb (get_or l (Layout.SERIAL + o) 0) n.serial)
    unfolding named same_name
    named_here = rw (
      object-here b l w o (λ z. alive (sym (row Layout.MASTER l o at) ∙ z)),
      row Layout.VOLUME b o at,
      row Layout.SERIAL l o at,
    )

  -- ---- x and y are its serial and its volume

  pub named-cell : named (view b l w) n o ≡ true → cell_is Layout.SERIAL l n.serial o ≡ true
  unfolding cell_is
  named-cell h = by-eq (get_or l (Layout.MASTER + o) 0) 0
      (λ z. absurd (false≢true (named_none z ∙ h)))
      (λ alive.
      (all2 (eqb (get_or b (Layout.VOLUME + o) 0) n.volume) (eqb (get_or l (Layout.SERIAL + o) 0) n.serial)
      (sym (named_here alive) ∙ h)).1)

  -- another serial
  pub named_other : (x : ℕ) → x ≡ get_or l (Layout.SERIAL + o) 0 → x ≢ n.serial → false ≡ named (view b l w) n o
  unfolding cell_is
  named_other x e ne = sym (refuted (named (view b l w) n o)
      (λ h. ne (e ∙ eqb-true (get_or l (Layout.SERIAL + o) 0) n.serial (named-cell h))))

  -- another volume
  pub named-else : (y : ℕ) → y ≡ get_or b (Layout.VOLUME + o) 0 → y ≢ n.volume → false ≡ named (view b l w) n o
  named-else y e ne = by-eq (get_or l (Layout.MASTER + o) 0) 0 named_none
      (λ alive. sym (named_here alive
      ∙ rw (ne_eqb (get_or b (Layout.VOLUME + o) 0) n.volume (λ q. ne (e ∙ q)))))

  -- the name: it is the object's, if one lives there
  pub named-lives : (x : ℕ) → x ≡ get_or l (Layout.SERIAL + o) 0 → x ≡ n.serial
      → (y : ℕ) → y ≡ get_or b (Layout.VOLUME + o) 0 → y ≡ n.volume
      → not (eqb (get_or l (Layout.MASTER + o) 0) 0) ≡ named (view b l w) n o
  named-lives x e p y f q = by-eq (get_or l (Layout.MASTER + o) 0) 0
      (λ z. rw (eq-eqb (get_or l (Layout.MASTER + o) 0) 0 z) (named_none z))
      (λ alive. rw (ne_eqb (get_or l (Layout.MASTER + o) 0) 0 alive) (sym (named_here alive ∙ rw (
        eq-eqb (get_or b (Layout.VOLUME + o) 0) n.volume (sym f ∙ q),
        eq-eqb (get_or l (Layout.SERIAL + o) 0) n.serial (sym e ∙ p),
      ))))

-- the search of the serials does for the names
pub named-from : (b l w : List ℕ) (n : Name) (r : ℕ) → SameFrom (cell_is Layout.SERIAL l n.serial) 64 r
    → SameFrom (named (view b l w) n) 64 r
named-from b l w n r now =
    same-fewer _ _ now (λ k low high. named-cell b l w n k (record { low = low; high = high }))

-- ---- processes

module _ (b l w : List ℕ) (o : ℕ) where
  not-process : master_of l o ≡ 0 → false ≡ ((view b l w).object o).process
  not-process z = sym (process-is b l w o ∙ process-no (master_of l) (flag_of b) o z)

  pub process-zero : o ≡ 0 → false ≡ ((view b l w).object o).process
  process-zero z = not-process (field_out 64 Layout.MASTER l o (λ low high. omega arith))

-- ---- marks

morgan : (a b c : Bool) → not (not a || not b || not c) ≡ (a && (b && c))
morgan true true true = refl
morgan true true false = refl
morgan true false c = refl
morgan false b c = refl

pub unmarked-is : (b : List ℕ) (o : ℕ) → ObjectSlot o → unmarked b o
    ≡ (eqb (get_or b (Layout.SUSPENDED + o) 0) 0
    && (eqb (get_or b (Layout.WAITING + o) 0) 0 && eqb (get_or b (Layout.TERMINATED + o) 0) 0))
unfolding unmarked is_set
unmarked-is b o at =
    rw (row Layout.SUSPENDED b o at, row Layout.WAITING b o at, row Layout.TERMINATED b o at)
    (morgan (eqb (get_or b (Layout.SUSPENDED + o) 0) 0) (eqb (get_or b (Layout.WAITING + o) 0) 0)
    (eqb (get_or b (Layout.TERMINATED + o) 0) 0))

-- ---- who runs

pub running-data : (s : State) (o : ℕ) → false ≡ (s.object o).process → false ≡ running s o
unfolding running
running-data s o e = rw (← e) (rw (and-false (s.object o).live))

pub running-marks : (b l w : List ℕ) (o : ℕ) → ((view b l w).object o).process ≡ true
    → unmarked b o ≡ running (view b l w) o
unfolding running unmarked
running-marks b l w o e =
    let p : is_process (master_of l) (flag_of b) o ≡ true = sym (process-is b l w o) ∙ e in
    rw (object-shown b l w o (process-lives (master_of l) (flag_of b) o p), e, marks-here b l w o p)

-- ---- the slot of the object found is an object's

pub found-high : (s : State) (n : Name) → object_named s n ≤ 64
found-high s n = rw (named-found s n) (find-le (named s n) 64)

-- ---- the name of a living object, by its cells

pub name-is : (b l w : List ℕ) (o : ℕ) → ObjectSlot o → master_of l o ≢ 0 → (x : Name)
    → x.volume ≡ get_or b (Layout.VOLUME + o) 0 → x.serial ≡ get_or l (Layout.SERIAL + o) 0
    → x ≡ ((view b l w).object o).name
name-is b l w o at alive x v n = rw (object-here b l w o alive, row Layout.VOLUME b o at, row Layout.SERIAL l o at)
    (λ i. record { volume = v i; serial = n i })
