-- The question's refusals in the order in which the code tests them, and the place where none is met: what the program tests of an
-- entry is what the rules ask.
use Prim.Native.Nat.{ℕ, ◌≤◌}
use mathlib.Core.Path.{◌≡◌, refl, sym, ap, ◌∙◌, subst}
use mathlib.Core.Logic.{◌≢◌}
use mathlib.Core.Bool.{true, false, ◌&&◌}
use mathlib.Core.List.{List}
use native.Mathlib.Omega.{arith}
use lib.Dec.{eqb}
use borrow.Author.Tests.{eqb-true, eq-eqb}
use Rattle.rules.specs.Code as Code
use Rattle.rules.specs.Store as Store
use Rattle.rules.specs.Store.{State, object_named}
use Rattle.rules.specs.Valid.{Valid}
use Rattle.rules.specs.Rights.{DERIVE_CAP}
use Rattle.rules.specs.Call.{Capability}
use Rattle.rules.specs.Refusals.{◌when◌, first, name_fits, running, showing}
use Rattle.rules.specs.Questions as Questions
use Rattle.rules.specs.Questions.{shown_slot, Wish, Lends, entries, entry, list_fits, wish_fits, lend_refuses, unlent}
use Rattle.rules.specs.Questions.{FirstOf, NoneOf, LendAsked}
use Rattle.rules.specs.Theorems.{lendable, LendDecided}
use Rattle.rules.proofs.Tests.{both_true, all2, all3}
use Rattle.rules.proofs.Theorems.{lend-decided}
use Rattle.question_lend.specs.Places.{will_do}
use Rattle.question_lend.proofs.Listing.{names}

module _ (s : State) (caller : Store.Name) (l : List ℕ) (x : Wish) where
  pub asked-refused : (n : ℕ) (r : Questions.Lent) → first (lend_refuses s caller l x) ≡ n → n ≢ Code.done → r ≡ unlent n
      → LendAsked s caller l x r
  asked-refused n r e nz q = record {
    refused = λ _. q ∙ ap unlent (sym e);
    found = λ z _. absurd (nz (sym e ∙ z));
    none = λ z _. absurd (nz (sym e ∙ z));
  }

  -- a name, the list or the wish is out of range
  pub asked-two : (r : Questions.Lent) → (name_fits caller && list_fits l && wish_fits x) ≡ false → r ≡ unlent Code.out_of_range
      → LendAsked s caller l x r
  unfolding lend_refuses first ◌when◌
  asked-two r h = asked-refused Code.out_of_range r (rw h) (λ z. omega arith)

  module _ (fit : (name_fits caller && list_fits l && wish_fits x) ≡ true) (me : ℕ) (who : me ≡ object_named s caller) where
    pub asked-three : (r : Questions.Lent) → running s me ≡ false → r ≡ unlent Code.not_running → LendAsked s caller l x r
    unfolding lend_refuses first ◌when◌
    asked-three r h = asked-refused Code.not_running r (rw (fit, ← who, h)) (λ z. omega arith)

    -- ---- 2 and 3 are not met

    module _ (runs : running s me ≡ true) (G : Valid s) where
      none-met : first (lend_refuses s caller l x) ≡ Code.done
      unfolding lend_refuses first ◌when◌
      none-met = rw (fit, ← who, runs)

      -- the entry at a place will do where the rules say so
      module _ (place : ℕ) (low : 1 ≤ place) (high : place ≤ entries l) where
        abbrev e : Capability
        e = entry l place

        parts : (name_fits caller ≡ true) × (list_fits l ≡ true) × (wish_fits x ≡ true)
        parts = all3 (name_fits caller) (list_fits l) (wish_fits x) fit

        lends-does : Lends s caller x e → will_do s me x e ≡ true
        unfolding will_do LendDecided shown_slot
        lends-does L =
            let d = (lend-decided s caller x e G parts.0 (names l parts.1 place low high) parts.2).0 L in
            subst (λ m. will_do s m x e ≡ true) (sym who) (both_true (eqb (first (showing s (shown_slot s caller e) DERIVE_CAP)) Code.done)
            (lendable s (shown_slot s caller e) x) (eq-eqb _ _ d.0) d.1)

        does-lends : will_do s me x e ≡ true → Lends s caller x e
        unfolding will_do LendDecided shown_slot
        does-lends h =
            let d = all2 (eqb (first (showing s (shown_slot s caller e) DERIVE_CAP)) Code.done)
            (lendable s (shown_slot s caller e) x) (subst (λ m. will_do s m x e ≡ true) who h) in
            (lend-decided s caller x e G parts.0 (names l parts.1 place low high) parts.2).1 (eqb-true _ _ d.0, d.1)

      -- ---- no place was found, or this one

      pub asked-none : NoneOf (entries l) (λ j. will_do s me x (entry l j) ≡ true)
          → (r : Questions.Lent) → r ≡ unlent Code.none_will_do → LendAsked s caller l x r
      unfolding unlent
      asked-none none r q = record {
        refused = λ nz. absurd (nz none-met);
        found = λ _ c. absurd (omega (arith, c, ap (λ (a : Questions.Lent). a.code) q));
        none = λ _ _. (q, λ j a b L. none j a b (lends-does j a b L));
      }

      pub asked-found : (place : ℕ) → FirstOf (entries l) (λ j. will_do s me x (entry l j) ≡ true) place
          → LendAsked s caller l x (record { code = Code.done; place = place })
      asked-found place f = record {
        refused = λ bad. absurd (bad none-met);
        found = λ _ _. record {
          some = f.some;
          low = f.low;
          holds = does-lends place f.some f.low f.holds;
          before = λ j a b L. f.before j a b (lends-does j a (omega (arith, f.low)) L);
        };
        none = λ _ c. absurd (c refl);
      }
