-- The examples: the store is well formed, so the answer is the first place whose entry passes the program's test, which is computed.
use Prim.Native.Nat.{ℕ, zero, suc, ◌+◌}
use mathlib.Core.Path.{◌≡◌, refl, ap, subst}
use mathlib.Core.Bool.{Bool, true, false, ◌&&◌}
use mathlib.Core.List.{List, [], ◌∷◌, map}
use Rattle.std.proofs.Common.{Option, Some, None}
use native.Mathlib.Omega.{arith}
use lib.Dec.{eqb, ltb}
use borrow.Author.Tests.{eqb-true, eqb-false}
use Rattle.rules.specs.Code as Code
use Rattle.rules.specs.Store.{Name, State, object_named, caps_live}
use Rattle.rules.specs.Valid.{Valid}
use Rattle.rules.specs.Refusals.{◌when◌, first, name_fits, running}
use Rattle.rules.specs.Questions as Questions
use Rattle.rules.specs.Questions.{Wish, Lent, entries, entry, list_fits, wish_fits, lend_refuses, unlent, LendAsked}
use Rattle.rules.specs.Theorems.{lendable}
use Rattle.rules.specs.Script as Script
use Rattle.rules.specs.Edges as Rules
use Rattle.rules.proofs.Tests.{not-is-false, pick-by}
use Rattle.rules.proofs.Ready.{numbers, none-met}
use Rattle.rules.proofs.Played as Played
use Rattle.rules.proofs.Played.{all_fit, valid-after}
use Rattle.question_lend.specs.Places.{will_do, Finds}
use Rattle.question_lend.specs.Edges as Edges
use Rattle.question_lend.specs.Edges.{Edge, hall, lines, edges, AllHold}
use Rattle.question_lend.proofs.Searching.{Passed, passed_none, passed-more, found_here, found_none}
use Rattle.question_lend.proofs.Asking.{asked-refused, asked-none, asked-found}

-- ---- an answer that can be computed

-- the first of n places from this one on that passes, None if none does
unfoldable up : (ℕ → Bool) → ℕ → ℕ → Option ℕ
up t zero place = None
up t (suc n) place = elim (t place) [ true ↦ Some place | false ↦ up t n (place + 1) ]

up-finds : (t : ℕ → Bool) (m n place : ℕ) → place + n ≡ m + 1 → Passed t place → Finds m t (up t n place)
unfolding up
up-finds t m zero place e P = found_none t m place P (omega arith)
up-finds t m (suc n) place e P = pick-by (Finds m t) (t place) (Some place) (up t n (place + 1))
    (λ q. found_here t m place P (omega arith) q)
    (λ q. up-finds t m n (place + 1) (omega arith) (passed-more t 0 place P q))

unfoldable placed : Option ℕ → Lent
placed None = unlent Code.none_will_do
placed (Some place) = record { code = Code.done; place = place }

module _ (s : State) (caller : Name) (l : List ℕ) (x : Wish) where
  abbrev test : ℕ → Bool
  test place = will_do s (object_named s caller) x (entry l place)

  unfoldable computed : Lent
  computed = elim (eqb (first (lend_refuses s caller l x)) Code.done) [
    | true ↦ placed (up test (entries l) 1)
    | false ↦ unlent (first (lend_refuses s caller l x))
  ]

  abbrev fits : Bool
  fits = name_fits caller && list_fits l && wish_fits x

  module _ (z : first (lend_refuses s caller l x) ≡ Code.done) (G : Valid s) where
    unmet : (fits ≡ true) × (running s (object_named s caller) ≡ true)
    unfolding lend_refuses ◌when◌ numbers
    unmet =
        let u = none-met (λ n. ltb 1 n) (lend_refuses s caller l x) refl refl z in
        (not-is-false fits u.0, not-is-false (running s (object_named s caller)) u.1.0)

    asked-placed : (found : Option ℕ) → Finds (entries l) test found → LendAsked s caller l x (placed found)
    unfolding placed
    asked-placed None none = asked-none s caller l x unmet.0 _ refl unmet.1 G none _ refl
    asked-placed (Some place) first = asked-found s caller l x unmet.0 _ refl unmet.1 G place first

  asked-computed : Valid s → LendAsked s caller l x computed
  unfolding computed
  asked-computed G = pick-by (LendAsked s caller l x) (eqb (first (lend_refuses s caller l x)) Code.done) _ _
      (λ e. asked-placed (eqb-true _ _ e) G (up test (entries l) 1)
      (up-finds test (entries l) (entries l) 1 (omega arith) (passed_none test)))
      (λ e. asked-refused s caller l x _ _ refl (eqb-false _ _ e) refl)

-- ---- the store

-- each line that makes a capability is done
pub lines-done : caps_live hall ≡ 10
unfolding Script.computes Rules.computes Edges.computes
lines-done = refl

lines_fit : all_fit lines ≡ true
unfolding Played.computes Script.computes Rules.computes Edges.computes
lines_fit = refl

hall-valid : Valid hall
unfolding hall
hall-valid = valid-after lines lines_fit

-- ---- the table

given : Edge → Lent
given e = computed hall e.caller e.list e.wish

given_so : map given edges ≡ map (λ (e : Edge). e.answer) edges
unfolding given computed up placed will_do lendable Questions.computes Script.computes Rules.computes Edges.computes
given_so = refl

abbrev top : List Lent → Lent
top [] = unlent Code.done
top (a ∷ l) = a

abbrev rest : List Lent → List Lent
rest [] = []
rest (a ∷ l) = l

all_hold : (l : List Edge) → map given l ≡ map (λ (e : Edge). e.answer) l → AllHold l
unfolding AllHold given
all_hold [] h = tt
all_hold (e ∷ l) h = (
  subst (LendAsked hall e.caller e.list e.wish) (ap top h) (asked-computed hall e.caller e.list e.wish hall-valid),
  all_hold l (ap rest h),
)

pub edges-hold : AllHold edges
edges-hold = all_hold edges given_so
