-- The search from the last slot down, step by step: a loop that counts down is `find` itself.
use Prim.Native.Nat.{ℕ, zero, suc, ◌+◌, ◌-◌, ◌≤◌, ◌<◌}
use mathlib.Core.Path.{◌≡◌, refl, sym, ap, ap₂, ◌∙◌, subst}
use mathlib.Core.Logic.{◌≢◌}
use mathlib.Core.List.{List}
use mathlib.Core.Bool.{Bool, true, false, not, ◌||◌, false≢true, true≢false}
use native.Mathlib.Omega.{arith}
use lib.Dec.{eqb}
use lib.ListN.{get_or, length, take, drop}
use Rattle.rules.specs.Slots.{find}
use Rattle.rules.proofs.Tests.{by-eq, by_bool, refuted}
use Rattle.rules.proofs.Slots.{find-finds}
use Rattle.std.specs.Prelude.{Option, Some, None, is_some}
use Rattle.std.specs.List.{list_any, between}
use Rattle.std.proofs.lemmas.List.{take-append-drop, drop-drop, length-drop, get_or-drop}
use Rattle.std.proofs.lemmas.List.Edits.{length-between, get_or-between}
use Rattle.std.proofs.lemmas.List.Folds.{list_any-append, list_any_at}
use Rattle.call_steps.specs.Tests.{SameFrom, cell_is, slot_found}
use borrow.Author.Tests.{eq-eqb, ne_eqb}

pub slot-is-some : (n : ℕ) → is_some (slot_found n) ≡ not (eqb n 0)
slot-is-some zero = refl
slot-is-some (suc n) = rw (ne_eqb (suc n) 0 (omega arith))

-- a slot is found where it is not 0
pub slot-some : (i : ℕ) → 1 ≤ i → Some i ≡ slot_found i
slot-some zero h = absurd (omega arith)
slot-some (suc n) h = refl

abbrev slot_or_0 : Option ℕ → ℕ
slot_or_0 None = 0
slot_or_0 (Some i) = i

-- what is found, and that it is not 0; or that it is
pub slot_of : (n i : ℕ) → Some i ≡ slot_found n → (i ≡ n) × (1 ≤ i)
slot_of zero i e = absurd (true≢false (ap is_some e))
slot_of (suc n) i e = let q : i ≡ suc n = ap slot_or_0 e in (q, omega (arith, q))

pub slot_none : (n : ℕ) → None ≡ slot_found n → n ≡ 0
slot_none zero e = refl
slot_none (suc n) e = absurd (false≢true (ap is_some e))

module _ (t : ℕ → Bool) where
  -- a slot that passes the test is found, one that fails is passed over
  pub find-this : (i : ℕ) → 1 ≤ i → t i ≡ true → find i t ≡ i
  unfolding find
  find-this zero h e = absurd (omega arith)
  find-this (suc n) h e = rw (e, find)

  find-down : (n : ℕ) → t (suc n) ≡ false → find (suc n) t ≡ find n t
  unfolding find
  find-down n e = rw (e, find)

  pub find-next : (i : ℕ) → 1 ≤ i → t i ≡ false → find i t ≡ find (i - 1) t
  find-next zero h e = absurd (omega arith)
  find-next (suc n) h e = find-down n e ∙ (let q : n ≡ suc n - 1 = omega arith in ap (λ k. find k t) q)

  pub find-end : (i : ℕ) → i ≡ 0 → find i t ≡ 0
  unfolding find
  find-end zero e = refl
  find-end (suc n) e = absurd (omega arith)

  pub find-le : (n : ℕ) → find n t ≤ n
  find-le n = by-eq (find n t) 0 (λ z. omega arith) (λ h. (find-finds n t h).1)

  pub found-le : (n r : ℕ) → r ≡ find n t → r ≤ n
  found-le n r e = omega (arith, find-le n)

  -- slots that fail are passed over, a group of them at once
  pub find-passed : (n i : ℕ) → i ≤ n → ((k : ℕ) → i < k → k ≤ n → t k ≡ false) → find n t ≡ find i t
  find-passed zero i h none = let z : zero ≡ i = omega arith in ap (λ k. find k t) z
  find-passed (suc n) i h none = by-eq (suc n) i
      (λ e. ap (λ k. find k t) e)
      (λ ne.
      find-down n (none (suc n) (omega arith) (omega arith))
      ∙ find-passed n i (omega arith) (λ k a b. none k a (omega arith)))

  -- ---- where the search goes on

  pub same_start : (n : ℕ) → SameFrom t n n
  same_start n = record { high = omega arith; same = refl }

  module _ {n i : ℕ} (now : SameFrom t n i) where
    pub same_next : 1 ≤ i → t i ≡ false → SameFrom t n (i - 1)
    same_next low e = record { high = omega (arith, now.high); same = now.same ∙ find-next i low e }

    pub same-found : 1 ≤ i → t i ≡ true → i ≡ find n t
    same-found low e = sym (now.same ∙ find-this i low e)

    pub same_end : i ≡ 0 → 0 ≡ find n t
    same_end e = sym (now.same ∙ find-end i e)

    -- slot i passes, and is found
    pub found-at : 1 ≤ i → t i ≡ true → Some i ≡ slot_found (find n t)
    found-at low e = slot-some i low ∙ ap slot_found (same-found low e)

    -- none is left
    pub found-none : i ≡ 0 → None ≡ slot_found (find n t)
    found-none e = ap slot_found (same_end e)

    -- of a loop that counts down, its counter one above
    pub before : SameFrom t n (i + 1 - 1)
    before = let q : i ≡ i + 1 - 1 = omega arith in subst (SameFrom t n) q now

-- where all that pass t pass u, t finds the same among those that pass u
module _ (t u : ℕ → Bool) where
  find-among : (n : ℕ) → ((k : ℕ) → 1 ≤ k → k ≤ n → t k ≡ true → u k ≡ true) → find n t ≡ find (find n u) t
  find-among zero h = ap (λ k. find k t) (sym (find-end u 0 refl))
  find-among (suc n) h = by_bool (u (suc n))
      (λ e. ap (λ k. find k t) (sym (find-this u (suc n) (omega arith) e)))
      (λ e.
      find-down t n (refuted (t (suc n)) (λ q. false≢true (sym e ∙ h (suc n) (omega arith) (omega arith) q)))
      ∙ find-among n (λ k a b. h k a (omega arith))
      ∙ ap (λ k. find k t) (sym (find-down u n e)))

  pub same-fewer : {n i : ℕ} → SameFrom u n i → ((k : ℕ) → 1 ≤ k → k ≤ n → t k ≡ true → u k ≡ true)
      → SameFrom t n i
  same-fewer {n} {i} now h = record {
    high = now.high;
    same = find-among n h ∙ ap (λ k. find k t) now.same
        ∙ sym (find-among i (λ k a b. h k a (omega (arith, now.high))));
  }

  pub same-among : {n i : ℕ} → SameFrom t n i → ((k : ℕ) → 1 ≤ k → k ≤ i → t k ≡ true → u k ≡ true)
      → (r : ℕ) → r ≡ find i u → SameFrom t n r
  same-among {n} {i} now h r e = record {
    high = omega (arith, now.high, find-le u i);
    same = now.same ∙ find-among i h ∙ ap (λ k. find k t) (sym e);
  }

-- ---- one cell of a row

module _ (off : ℕ) (l : List ℕ) (x k : ℕ) where
  pub cell-is : get_or l (off + k) 0 ≡ x → cell_is off l x k ≡ true
  unfolding cell_is
  cell-is e = eq-eqb _ _ e

  pub cell-not : get_or l (off + k) 0 ≢ x → cell_is off l x k ≡ false
  unfolding cell_is
  cell-not h = ne_eqb _ _ h

-- ---- cells of which none passes

module _ {X : Type 0} (p : X → Bool) (xs : List X) where
  -- none of a group, and none after it
  pub none-before : (i g : ℕ) → g ≤ i → list_any p (take (i - (i - g)) (drop (i - g) xs)) ≡ false
      → list_any p (drop i xs) ≡ false → list_any p (drop (i - g) xs) ≡ false
  none-before i g h here after =
      let k : ℕ = i - (i - g) in
      let q : i - g + k ≡ i = omega arith in
      let rest : drop k (drop (i - g) xs) ≡ drop i xs = drop-drop k (i - g) xs ∙ ap (λ m. drop m xs) q in
      ap (list_any p) (sym (take-append-drop k (drop (i - g) xs)))
      ∙ list_any-append p (take k (drop (i - g) xs)) (drop k (drop (i - g) xs))
      ∙ ap₂ (λ a b. a || b) here (ap (list_any p) rest ∙ after)

  none-at : (j : ℕ) (d : X) → list_any p xs ≡ false → j < length xs → p (get_or xs j d) ≡ false
  none-at j d e h = refuted (p (get_or xs j d)) (λ q. false≢true (sym e ∙ list_any_at p xs j d h q))

-- the cells of slots 1 to n, of which those of r + 1 to n are passed over
module _ (off : ℕ) (l : List ℕ) (x n r : ℕ) where
  pub same_skipped : off + 1 + n ≤ length l → r ≤ length (between (off + 1) (off + 1 + n) l)
      → list_any (λ y. eqb y x) (drop r (between (off + 1) (off + 1 + n) l)) ≡ false → SameFrom (cell_is off l x) n r
  unfolding cell_is
  same_skipped room low passed =
      let cells : List ℕ = between (off + 1) (off + 1 + n) l in
      let size : length cells ≡ off + 1 + n - (off + 1) = length-between l (off + 1) (off + 1 + n) room in
      let high : r ≤ n = omega (arith, size, low) in
      record {
        high = high;
        same = find-passed (λ k. eqb (get_or l (off + k) 0) x) n r high (λ k a b.
            let j : ℕ = k - (r + 1) in
            let left : length (drop r cells) ≡ length cells - r = length-drop r cells in
            let q : off + 1 + (r + j) ≡ off + k = omega arith in
            let at : get_or (drop r cells) j 0 ≡ get_or l (off + k) 0 =
            get_or-drop r cells j 0
            ∙ get_or-between l (off + 1) (off + 1 + n) (r + j) 0 (omega arith)
            ∙ ap (λ m. get_or l m 0) q in
            subst (λ v. eqb v x ≡ false) at (none-at (λ y. eqb y x) (drop r cells) j 0 passed (omega (arith, left, size))));
      }
