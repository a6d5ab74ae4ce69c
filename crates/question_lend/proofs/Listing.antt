-- The list: an entry at a place is within the slice, and the names of all entries are in range where none is found that is not.
use Prim.Native.Nat.{ℕ, ◌+◌, ◌-◌, ◌*◌, ◌≤◌, ◌<◌}
use mathlib.Core.Path.{◌≡◌, sym}
use mathlib.Core.Logic.{◌≢◌}
use mathlib.Core.Bool.{Bool, true, false, not}
use mathlib.Core.List.{List}
use native.Mathlib.Nat.{div-mul-le_self}
use native.Mathlib.Omega.{arith}
use lib.Dec.{leb, eqb}
use lib.ListN.{length}
use borrow.Author.Tests.{leb-true, eq-eqb, ne_eqb, le-leb, lt-leb}
use Rattle.rules.specs.Limit as Limit
use Rattle.rules.specs.Slots.{find, some}
use Rattle.rules.specs.Refusals.{name_fits}
use Rattle.rules.specs.Questions.{FirstOf, NoneOf, entries, entry, list_fits}
use Rattle.rules.proofs.Tests.{all3, by-eq, not-is-true, not-is-false}
use Rattle.rules.proofs.Slots.{find-finds, find-some, some-none}
use Rattle.question_lend.specs.Places.{Place}

pub within : {l : List ℕ} {place : ℕ} → Place l place → Limit.entry * (place - 1) + Limit.entry ≤ length l
unfolding entries
within {l} {place} p = omega (arith, p.low, p.high, div-mul-le_self (length l) 4)

-- ---- whether a place was found that passes a test

module _ (t : ℕ → Bool) (n : ℕ) where
  pub some-first : (place : ℕ) → FirstOf n (λ j. t j ≡ true) place → false ≡ not (some n t)
  unfolding some
  some-first place f = rw (ne_eqb (find n t) 0 (find-some n t place f.some f.low f.holds))

  pub none-some : NoneOf n (λ j. t j ≡ true) → true ≡ not (some n t)
  unfolding some
  none-some none =
      let zero : find n t ≡ 0 = by-eq (find n t) 0 (λ e. e)
      (λ ne. let f = find-finds n t ne in absurd (none (find n t) (omega arith) f.1 f.0)) in
      rw (eq-eqb (find n t) 0 zero)

-- ---- a list as a whole

module _ (l : List ℕ) where
  -- the name at a place is out of range
  abbrev pub unnamed : ℕ → Bool
  unnamed place = not (name_fits (entry l place).name)

  -- ---- its tests one after the other

  pub not-whole : Limit.entry * entries l ≢ length l → false ≡ list_fits l
  unfolding list_fits
  not-whole ne = rw (ne_eqb (Limit.entry * entries l) (length l) ne)

  module _ (whole : Limit.entry * entries l ≡ length l) where
    pub too_long : Limit.entries < entries l → false ≡ list_fits l
    unfolding list_fits
    too_long h = rw (eq-eqb (Limit.entry * entries l) (length l) whole, lt-leb (entries l) Limit.entries h)

    pub by_names : entries l ≤ Limit.entries → not (some (entries l) unnamed) ≡ list_fits l
    unfolding list_fits
    by_names h = rw (eq-eqb (Limit.entry * entries l) (length l) whole, le-leb (entries l) Limit.entries h)

  -- ---- what one that fits has

  module _ (h : list_fits l ≡ true) where
    parts : (eqb (Limit.entry * entries l) (length l) ≡ true) × (leb (entries l) Limit.entries ≡ true)
        × (not (some (entries l) unnamed) ≡ true)
    unfolding list_fits
    parts = all3 (eqb (Limit.entry * entries l) (length l)) (leb (entries l) Limit.entries) (not (some (entries l) unnamed)) h

    pub few : entries l ≤ Limit.entries
    few = leb-true _ _ parts.1

    pub names : (place : ℕ) → 1 ≤ place → place ≤ entries l → name_fits (entry l place).name ≡ true
    names place low high =
        not-is-false (name_fits (entry l place).name) (some-none (entries l) unnamed (not-is-true (some (entries l) unnamed) parts.2) place low high)
