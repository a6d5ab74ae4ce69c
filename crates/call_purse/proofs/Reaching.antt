-- The climb of a living capability in a well-formed store: by the links as by the view's parents, through living
-- capabilities alone, and within 512 steps. So the rules' tests of the climb are those of the words.
use Prim.Native.Nat.{ℕ, ◌≤◌}
use mathlib.Core.Path.{◌≡◌, refl, sym, ap, subst}
use mathlib.Core.Logic.{◌≢◌, inl, inr}
use mathlib.Core.Bool.{Bool, true, false}
use mathlib.Core.List.{List, [], ◌∷◌}
use Rattle.rules.specs.Slots.{any}
use Rattle.rules.specs.Store.{State, path}
use Rattle.rules.specs.Valid.{Lives, Climbs, top, step, Caps}
use Rattle.rules.proofs.Climbs.{OneOf, climbs-frame, climb-few}
use Rattle.rules.proofs.Forest.{path-climbs, path-lives}
use Rattle.layout.specs.Layout as Layout
use Rattle.layout.specs.Rows.{owner_of, parent_of, cash_of, money_of}
use Rattle.layout.specs.View.{view}
use Rattle.layout.specs.Shape.{Chain}
use Rattle.layout.specs.WellFormed.{Plain}
use Rattle.layout.proofs.Field.{field-low, field-high}
use Rattle.layout.proofs.Shown.{cash-here, parent_is, money-here, cap-lives, cap-shown}
use Rattle.call_steps.specs.Run.{Process, Held}
use Rattle.call_steps.proofs.Process.{is-process}
use Rattle.call_purse.specs.declared.way.Way.{Way}
use Rattle.call_purse.specs.Climb.{climb_of, Climbable, stops, climb_stops}

climbs-chain : {p : ℕ → ℕ} {k : ℕ} {xs : List ℕ} → Climbs p k xs → ((j : ℕ) → OneOf j xs → (1 ≤ j) × (j ≤ 512))
    → Chain 512 p k xs
unfolding Chain
climbs-chain top h = refl
climbs-chain (step {i = i} n u) h = (refl, (h i (inl refl)).0, (h i (inl refl)).1, climbs-chain u (λ j o. h j (inr o)))

-- a test that is the same at each of the list
any_same : (t u : ℕ → Bool) (xs : List ℕ) → ((j : ℕ) → OneOf j xs → t j ≡ u j) → any t xs ≡ any u xs
unfolding any
any_same t u [] h = refl
any_same t u (i ∷ xs) h =
    let rest = any_same t u xs (λ j o. h j (inr o)) in
    λ d. elim (h i (inl refl) d) [ true ↦ true | false ↦ rest d ]

-- the caller's cash is its cell
pub cash-is : (b l w : List ℕ) (me : ℕ) → Process b l me → (view b l w).cash me ≡ cash_of w me
cash-is b l w me h = cash-here b l w me (is-process h)

module _ (b l w : List ℕ) (g : Plain b l w) (k : ℕ) (held : Held l k) where
  abbrev s : State
  s = view b l w

  abbrev caps : Caps s.object s.cap
  caps = g.valid.formed.caps

  shown : Lives s.cap k
  shown = cap-shown b l w k held.live

  alive : (j : ℕ) → OneOf j (path s k) → owner_of l j ≢ 0
  alive j o = cap-lives b l w j (path-lives s caps k j shown o)

  slots : (j : ℕ) → OneOf j (path s k) → (1 ≤ j) × (j ≤ 512)
  slots j o = (field-low 512 Layout.OWNER l j (alive j o), field-high 512 Layout.OWNER l j (alive j o))

  -- the rules' path is a climb by the links
  ends : Climbs (parent_of l) k (path s k)
  ends = climbs-frame {q = parent_of l} (Lives s.cap)
      (λ j h. (sym (parent_is b l w j (cap-lives b l w j h)), caps.parent j h)) (λ _. shown)
      (path-climbs s caps k (λ _. shown))

  pub path-is : path s k ≡ climb_of l k
  path-is = sym (climb-few 512 ends slots)

  pub climb-chain : Chain 512 (parent_of l) k (climb_of l k)
  climb-chain = subst (Chain 512 (parent_of l) k) path-is (climbs-chain ends slots)

  pub climbable : Climbable l w k
  climbable = record { links = g.sized.links; words = g.sized.words; ends = climb-chain }

  climb-lives : (j : ℕ) → OneOf j (climb_of l k) → owner_of l j ≢ 0
  climb-lives j o = alive j (subst (OneOf j) (sym path-is) o)

  pub stops-is : (way : Way) (sum : ℕ)
      → any (λ i. stops way sum ((view b l w).money i)) (path (view b l w) k) ≡ climb_stops way l w k sum
  unfolding climb_stops
  stops-is way sum = rw path-is (any_same (λ i. stops way sum ((view b l w).money i)) (λ i. stops way sum (money_of w i))
      (climb_of l k) (λ j o. ap (stops way sum) (money-here b l w j (climb-lives j o))))
