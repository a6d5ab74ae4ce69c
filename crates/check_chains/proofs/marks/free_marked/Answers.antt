-- `free_marked` meets its contract: its answer says whether of the records above i, just the free ones are marked.
use mathlib.Core.Path.{◌≡◌, refl, sym, ap, ap₂, ◌∙◌}
use mathlib.Core.Logic.{◌≢◌}
use mathlib.Core.Bool.{false, not, beq, false≢true}
use mathlib.Core.List.{List}
use Prim.Native.Nat.{ℕ}
use native.Mathlib.Decide.{ℕ_discrete}
use lib.Dec.{eqb}
use borrow.Author.Tests.{eq-eqb, ne_eqb, not-true}
use native.Mathlib.Omega.{arith}
use lib.ListN.{get_or}
use Rattle.layout.specs.Decides.{Decides}
use Rattle.layout.proofs.Field.{field_in}
use Rattle.check_chains.specs.Marking.{FreeAt}
use Rattle.check_chains.proofs.Down.{down-start, down-on, down-end}
use Rattle.check_chains.proofs.marks.free_marked.Goals as goal

-- just one of x and y is 0, where the test whether both or neither are says no
unlike : (x y : ℕ) → (x ≡ 0 → y ≢ 0) → (x ≢ 0 → y ≡ 0) → beq (eqb x 0) (eqb y 0) ≡ false
unlike x y live free = go (ℕ_discrete x 0)
  where
    go : Dec (x ≡ 0) → beq (eqb x 0) (eqb y 0) ≡ false
    go (yes z) = ap₂ beq (eq-eqb x 0 z) (ne_eqb y 0 (live z))
    go (no n) = ap₂ beq (ne_eqb x 0 n) (eq-eqb y 0 (free n))

module _ (x y : ℕ) (e : beq (eqb x 0) (eqb y 0) ≡ false) where
  then-not : x ≡ 0 → y ≢ 0
  then-not z b = false≢true (sym e ∙ ap₂ beq (eq-eqb x 0 z) (eq-eqb y 0 b))

  then-zero : x ≢ 0 → y ≡ 0
  then-zero n = go (ℕ_discrete y 0)
    where
      go : Dec (y ≡ 0) → y ≡ 0
      go (yes z) = z
      go (no m) = absurd (false≢true (sym e ∙ ap₂ beq (ne_eqb x 0 n) (ne_eqb y 0 m)))

free-decided : (f : ℕ → ℕ) (seen : List ℕ) (k y : ℕ) → f k ≡ y
    → Decides (FreeAt f seen k) (not (beq (eqb (get_or seen k 0) 0) (eqb y 0)))
free-decided f seen k y e = record {
  sound = λ t. let u = not-true _ t in record {
    free = λ n. e ∙ then-zero (get_or seen k 0) y u n;
    live = λ z h. then-not (get_or seen k 0) y u z (sym e ∙ h);
  };
  complete = λ h. ap not (unlike (get_or seen k 0) y (λ z g. h.live z (e ∙ g)) (λ n. sym e ∙ h.free n));
}

pub loop-i-init : goal.loop-i-init
loop-i-init c = down-start _ _

pub loop-i-preserved : goal.loop-i-preserved
loop-i-preserved c =
    let now = c.loop-i.invariant in
    down-on now c.loop-i-test.true
    (free-decided _ _ _ _ (field_in _ _ _ _ c.loop-i-test.true now.high)) refl

pub returns : goal.returns
returns c = down-end c.loop-i.invariant (omega arith)
