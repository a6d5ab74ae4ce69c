-- 01, "the climb", by the links, one step at a time: from a slot that is not 0 it goes on from the one above, and one
-- slot less is left. What the test and the change of all on it come to, by the slot and the rest.
use Prim.Native.Nat.{ℕ, ◌+◌, ◌≤◌, ◌<◌}
use mathlib.Core.Path.{◌≡◌, refl, sym, ap, ◌∙◌}
use mathlib.Core.Logic.{◌≢◌, ⊎_elim}
use mathlib.Core.Bool.{true, false, true≢false}
use mathlib.Core.List.{List, [], ◌∷◌}
use native.Mathlib.Omega.{arith}
use lib.ListN.{length, set}
use Rattle.rules.specs.Slots.{any, climb}
use Rattle.rules.specs.Valid.{Climbs, top, step}
use Rattle.rules.proofs.Tests.{refuted}
use Rattle.rules.proofs.Climbs.{OneOf, climb-few, climb-top}
use Rattle.layout.specs.Layout as Layout
use Rattle.layout.specs.Rows.{parent_of, money_of}
use Rattle.layout.specs.Shape.{Chain}
use Rattle.call_purse.specs.declared.way.Way.{Way}
use Rattle.call_purse.specs.Climb.{climb_of, Climbable, stops, moves, climb_stops, through, climb_moved}

-- ---- a chain by parents is a climb of at most 512 slots

chain-climbs : (p : ℕ → ℕ) (k : ℕ) (xs : List ℕ) → Chain 512 p k xs → Climbs p k xs
unfolding Chain
chain-climbs p k [] c = rw c top
chain-climbs p k (j ∷ xs) c =
    rw c.0 (step {i = j} {xs = xs} (omega (arith, c.1)) (chain-climbs p (p j) xs c.3))

chain-slots : (p : ℕ → ℕ) (k : ℕ) (xs : List ℕ) → Chain 512 p k xs → (j : ℕ) → OneOf j xs → (1 ≤ j) × (j ≤ 512)
unfolding Chain
chain-slots p k [] c j o = absurd o
chain-slots p k (i ∷ xs) c j o = ⊎_elim
    (λ (e : j ≡ i). (omega (arith, c.1), omega (arith, c.2)))
    (λ r. chain-slots p (p i) xs c.3 j r) o

chain-climb : (p : ℕ → ℕ) (k : ℕ) (xs : List ℕ) → Chain 512 p k xs → climb 512 p k ≡ xs
chain-climb p k xs c = climb-few 512 (chain-climbs p k xs c) (chain-slots p k xs c)

-- ---- one step

pub record Step (l w : List ℕ) (k : ℕ) : Type 0 where
  pub low : 1 ≤ k
  pub high : k ≤ 512
  pub next : Climbable l w (parent_of l k)
  pub cons : climb_of l k ≡ k ∷ climb_of l (parent_of l k)
  pub fewer : length (climb_of l (parent_of l k)) < length (climb_of l k)

step_by : (l w : List ℕ) (k : ℕ) → Climbable l w k → k ≢ 0 → (xs : List ℕ) → climb_of l k ≡ xs
    → Chain 512 (parent_of l) k xs → Step l w k
unfolding Chain
step_by l w k c nz [] e h = absurd (nz h)
step_by l w k c nz (j ∷ xs) e h =
    let rest : climb_of l (parent_of l j) ≡ xs = chain-climb (parent_of l) (parent_of l j) xs h.3 in
    let next : climb_of l (parent_of l k) ≡ xs = rw h.0 rest in
    record {
      low = omega (arith, h.0, h.1);
      high = omega (arith, h.0, h.2);
      next = record { links = c.links; words = c.words; ends = rw next (rw h.0 h.3) };
      cons = e ∙ rw next (ap (λ (i : ℕ). i ∷ xs) (sym h.0));
      fewer = rw (e, next) (omega arith);
    }

pub step_of : {l w : List ℕ} {k : ℕ} → Climbable l w k → k ≢ 0 → Step l w k
step_of {l} {w} {k} c nz = step_by l w k c nz (climb_of l k) refl c.ends

module _ {l w : List ℕ} {k : ℕ} (way : Way) (sum : ℕ) where
  -- ---- the test

  pub stops-top : Climbable l w k → k ≡ 0 → climb_stops way l w k sum ≡ false
  unfolding climb_stops any
  stops-top c z = rw (z, climb-top (parent_of l) 512)

  pub stops-here : Step l w k → stops way sum (money_of w k) ≡ true → climb_stops way l w k sum ≡ true
  unfolding climb_stops any
  stops-here s e = rw s.cons (rw (e, any))

  pub stops-next : Step l w k → stops way sum (money_of w k) ≡ false
      → climb_stops way l w k sum ≡ climb_stops way l w (parent_of l k) sum
  unfolding climb_stops any
  stops-next s e = rw s.cons (rw (e, any))

  -- where none on the climb stops the sum, this one does not
  pub stops-none : Step l w k → climb_stops way l w k sum ≡ false → stops way sum (money_of w k) ≡ false
  stops-none s h = refuted (stops way sum (money_of w k)) (λ e. true≢false (sym (stops-here s e) ∙ h))

  -- ---- the change

  pub moved-top : Climbable l w k → k ≡ 0 → climb_moved way l w k sum ≡ w
  unfolding climb_moved through
  moved-top c z = rw (z, climb-top (parent_of l) 512)

  pub moved-step : Step l w k → climb_moved way l w k sum
      ≡ set (climb_moved way l w (parent_of l k) sum) (Layout.MONEY + k) (moves way sum (money_of w k))
  unfolding climb_moved through
  moved-step s = rw s.cons

-- two steps of it: the slot above k is up, W is the rest's change, m and n what becomes of k's and of up's
pub moved-two : {l w : List ℕ} {k : ℕ} (way : Way) (sum : ℕ) → Step l w k → Step l w (parent_of l k)
    → (W : List ℕ) (up m n : ℕ) → up ≡ parent_of l k → W ≡ climb_moved way l w (parent_of l (parent_of l k)) sum
    → n ≡ moves way sum (money_of w (parent_of l k)) → m ≡ moves way sum (money_of w k)
    → set (set W (Layout.MONEY + up) n) (Layout.MONEY + k) m ≡ climb_moved way l w k sum
moved-two {l} {w} {k} way sum s t W up m n e f g h =
    (λ d. set (set (f d) (Layout.MONEY + e d) (g d)) (Layout.MONEY + k) (h d))
    ∙ sym (moved-step way sum s
    ∙ ap (λ u. set u (Layout.MONEY + k) (moves way sum (money_of w k))) (moved-step way sum t))
