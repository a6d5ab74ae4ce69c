-- A capability with a p1: what the cells say of a slot, and that "p1 is taken in the object" is that there is one.
use Prim.Native.Nat.{ℕ, ◌+◌, ◌≤◌}
use mathlib.Core.Path.{◌≡◌, refl, sym, ◌∙◌}
use mathlib.Core.Logic.{◌≢◌}
use mathlib.Core.Bool.{true, false, false≢true}
use mathlib.Core.List.{List}
use native.Mathlib.Omega.{arith}
use lib.Dec.{eqb}
use lib.ListN.{get_or}
use borrow.Author.Tests.{eq-eqb, ne_eqb}
use Rattle.rules.specs.Slots.{find, some}
use Rattle.rules.specs.Store.{State}
use Rattle.rules.specs.Call.{Call}
use Rattle.rules.specs.Calls.{p1_taken}
use Rattle.rules.proofs.Tests.{by-eq}
use Rattle.layout.specs.Layout as Layout
use Rattle.layout.specs.Rows.{owner_of}
use Rattle.layout.specs.View.{view}
use Rattle.layout.proofs.Field.{field_in}
use Rattle.layout.proofs.Shown.{cap-here, cap-object}
use Rattle.call_steps.specs.Tests.{CapSlot, SameFrom, taken, cell_is}
use Rattle.call_steps.proofs.Finding.{same-among}

-- ---- one slot; x is its owner

module _ (b l w : List ℕ) (o p1 i : ℕ) (at : CapSlot i) (x : ℕ) (e : x ≡ get_or l (Layout.OWNER + i) 0) where
  owner-is : ((view b l w).cap i).object ≡ x
  owner-is = cap-object b l w i ∙ field_in 512 Layout.OWNER l i at.low at.high ∙ sym e

  pub taken-else : x ≢ o → false ≡ taken (view b l w) o p1 i
  unfolding taken
  taken-else ne = rw (owner-is, ne_eqb x o ne)

  pub taken_here : 1 ≤ o → x ≡ o → eqb (get_or w (Layout.P1 + i) 0) p1 ≡ taken (view b l w) o p1 i
  unfolding taken
  taken_here low q =
      let alive : owner_of l i ≢ 0 = λ z. omega (arith, field_in 512 Layout.OWNER l i at.low at.high) in
      rw (
        owner-is,
        eq-eqb x o q,
        cap-here b l w i alive,
        field_in 512 Layout.P1 w i at.low at.high,
      )

  pub taken-p1 : 1 ≤ o → taken (view b l w) o p1 i ≡ true → cell_is Layout.P1 w p1 i ≡ true
  unfolding cell_is
  taken-p1 low h = by-eq x o
      (λ q. taken_here low q ∙ h)
      (λ ne. absurd (false≢true (taken-else ne ∙ h)))

-- ---- all slots

-- the search goes on at the next slot with the p1
pub taken-among : (b l w : List ℕ) (o p1 i : ℕ) → 1 ≤ o → SameFrom (taken (view b l w) o p1) 512 i
    → (r : ℕ) → r ≡ find i (cell_is Layout.P1 w p1) → SameFrom (taken (view b l w) o p1) 512 r
taken-among b l w o p1 i some now = same-among _ _ now (λ k low high.
    taken-p1 b l w o p1 k (record { low = low; high = omega (arith, now.high) }) _ refl some)

-- the rules' test, of the object that capability k is for
pub p1-taken-is : (s : State) (c : Call) (me k : ℕ)
    → p1_taken s c me k ≡ some 512 (taken s (s.cap k).object c.drawn.p1)
unfolding p1_taken taken
p1-taken-is s c me k = refl
