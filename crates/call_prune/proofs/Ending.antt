-- Capabilities that end in the links, in the view. What the rules say of them is `end_where` of a test.
use Prim.Native.Nat.{ℕ}
use mathlib.Core.Path.{◌≡◌, refl, sym, ap, ◌∙◌, fun_ext, subst}
use mathlib.Core.Logic.{◌≢◌, inl, inr, ⊎_elim}
use mathlib.Core.Bool.{Bool, true, false, not, ◌&&◌, true≢false}
use mathlib.Core.List.{List, ◌∷◌}
use native.Mathlib.Omega.{arith}
use lib.Dec.{eqb}
use borrow.Author.Tests.{eqb-false, ne_eqb}
use Rattle.rules.specs.Store.{State, path, descends}
use Rattle.rules.specs.Valid.{Lives, Climbs, top, step, Caps}
use Rattle.rules.specs.Update.{with_cap, with_money}
use Rattle.rules.specs.Changes.{end_where}
use Rattle.rules.proofs.Tests.{by_bool, by-eq, both_true, all2, not-is-true, pick_yes}
use Rattle.rules.proofs.Climbs.{OneOf, one-mem, climbs-same, climbs-frame}
use Rattle.rules.proofs.Forest.{path-climbs, descends-one}
use Rattle.rules.proofs.Ending.{end-cap, stay-cap, stay-money}
use Rattle.layout.specs.Layout as Layout
use Rattle.layout.specs.Rows.{owner_of, parent_of, first_child_of}
use Rattle.layout.specs.View.{view}
use Rattle.layout.specs.WellFormed.{Sized, Cells, WellFormed}
use Rattle.layout.proofs.Field.{field-low}
use Rattle.layout.proofs.Kept.{cells-kept}
use Rattle.layout.proofs.Shaped.{shaped}
use Rattle.layout.proofs.Shown.{cap-none, money-none, cap-shown, parent_is}
use Rattle.layout.proofs.Frame.{state-is, house-same, day-same, object-same, bytes_same, lock-same, cash-same, marks-same}
use Rattle.layout.proofs.Frame.{box-same, cap-same-at, money-same-at}
use Rattle.call_prune.specs.Links.{pruned_links, LivingCap}
use Rattle.call_prune.proofs.Dropping.{SameRows}
use Rattle.call_prune.proofs.Shapes.{in_tree}
use Rattle.call_prune.proofs.Pruning.{Under, Pruning, meets_under}
use Rattle.call_prune.proofs.Measuring.{pruned}

-- ---- some end, in links l' for l

-- those that pass the test, and no others
pub record Ended (l l' : List ℕ) (test : ℕ → Bool) : Type 0 where
  pub rows : SameRows l l'
  pub gone : (i : ℕ) → test i ≡ true → owner_of l' i ≡ 0
  pub stays : (i : ℕ) → test i ≡ false → owner_of l' i ≡ owner_of l i

module _ (b l w l' : List ℕ) (test : ℕ → Bool) (E : Ended l l' test) where
  cap-ended : (i : ℕ) → (view b l' w).cap i ≡ (end_where (view b l w) test).cap i
  cap-ended i = by_bool (test i)
      (λ t. cap-none b l' w i (E.gone i t) ∙ sym (end-cap (view b l w) test i t))
      (λ t. cap-same-at b l w b l' w i (E.stays i t) (λ x. E.rows.parents x i) refl refl refl refl
      (λ x. E.rows.rights x i) (λ x. E.rows.last-days x i) ∙ sym (stay-cap (view b l w) test i t))

  end-money : (i : ℕ) → test i ≡ true → (end_where (view b l w) test).money i ≡ 0
  unfolding end_where with_money
  end-money i t = pick_yes (test i) 0 ((view b l w).money i) t

  money-ended : (i : ℕ) → (view b l' w).money i ≡ (end_where (view b l w) test).money i
  money-ended i = by_bool (test i)
      (λ t. money-none b l' w i (E.gone i t) ∙ sym (end-money i t))
      (λ t. money-same-at b l w b l' w i (E.stays i t) refl ∙ sym (stay-money (view b l w) test i t))

  pub ended-view : view b l' w ≡ end_where (view b l w) test
  unfolding end_where with_money with_cap
  ended-view =
      let R = E.rows in
      state-is (view b l' w) (end_where (view b l w) test)
      (house-same b l w b l' w refl)
      (day-same b l w b l' w R.day)
      (object-same b l w b l' w R.masters refl R.serials R.sizes refl)
      (bytes_same b l w b l' w R.masters R.sizes R.first-blocks R.next-blocks refl)
      (lock-same b l w b l' w R.masters refl refl refl)
      (cash-same b l w b l' w R.masters refl refl)
      (marks-same b l w b l' w R.masters refl refl refl refl)
      (box-same b l w b l' w R.masters refl refl refl refl refl)
      (fun_ext cap-ended)
      (fun_ext money-ended)

-- lengths and cells are as they were
module _ {b l w l' : List ℕ} (W : WellFormed b l w) (R : SameRows l l') where
  pub rows-sized : Sized b l' w
  rows-sized = record {
    bytes = W.sized.bytes;
    links = R.sized ∙ W.sized.links;
    words = W.sized.words;
  }

  pub rows-cells : Cells b l'
  rows-cells = cells-kept b l b l' R.masters refl refl refl refl refl refl W.cells

-- ---- below k, in the view

-- i descends from k, and is not k
unfoldable pub below : State → ℕ → ℕ → Bool
below s k i = descends s i k && not (eqb i k)

module _ {b l w : List ℕ} (W : WellFormed b l w) (k : ℕ) where
  abbrev s : State
  s = view b l w

  abbrev C : Caps s.object s.cap
  C = W.valid.formed.caps

  -- the climb by the links is the climb in the view
  climb-shown : {i : ℕ} {xs : List ℕ} → (i ≢ 0 → owner_of l i ≢ 0) → Climbs (parent_of l) i xs
      → Climbs (λ j. (s.cap j).parent) i xs
  climb-shown h u = climbs-frame {p = parent_of l} {q = λ j. (s.cap j).parent} (λ j. owner_of l j ≢ 0)
      (λ j g. (parent_is b l w j g, ((shaped l W.shape).cap j g).parent-lives)) h u

  shown-climb : {i : ℕ} {xs : List ℕ} → (i ≢ 0 → owner_of l i ≢ 0) → Climbs (λ j. (s.cap j).parent) i xs
      → Climbs (parent_of l) i xs
  shown-climb h u = climbs-frame {p = λ j. (s.cap j).parent} {q = parent_of l} (λ j. owner_of l j ≢ 0)
      (λ j g. (
        sym (parent_is b l w j g),
        λ n. subst (λ x. owner_of l x ≢ 0) (sym (parent_is b l w j g))
            (((shaped l W.shape).cap j g).parent-lives (λ z. n (parent_is b l w j g ∙ z))),
      )) h u

  lives : (i : ℕ) → owner_of l i ≢ 0 → i ≢ 0 → Lives s.cap i
  lives i h _ = cap-shown b l w i h

  under-descends : (i : ℕ) → owner_of l i ≢ 0 → Under (parent_of l) k i → descends s i k ≡ true
  unfolding descends
  under-descends i h u =
      let nz : i ≢ 0 = λ z. omega (arith, z, field-low 512 Layout.OWNER l i h) in
      let e : i ∷ u.way ≡ path s i =
      climbs-same (climb-shown (λ _. h) (step nz u.climbs)) (path-climbs s C i (lives i h)) in
      one-mem k (path s i) (subst (OneOf k) e (inr u.meets))

  descends-under : (i : ℕ) → owner_of l i ≢ 0 → descends s i k ≡ true → i ≢ k → Under (parent_of l) k i
  descends-under i h d n =
      ⊎_elim (λ e. absurd (n e)) (λ u. u)
      (meets_under (shown-climb (λ _. h) (path-climbs s C i (lives i h))) (descends-one s C i k d))

-- ---- once all below k have ended

module _ {l : List ℕ} {k : ℕ} {l' : List ℕ} (T : Pruning l k l' 0) where
  -- a living one has no climb that meets k, which has no child
  none-meets : {u : ℕ} {xs : List ℕ} (i : ℕ) → owner_of l' i ≢ 0 → parent_of l' i ≡ u → Climbs (parent_of l') u xs
      → OneOf k xs → ⊥
  none-meets i h e top o = absurd o
  none-meets i h e (step {i = u} n c) (inl q) =
      (in_tree l' T.shape.caps i h).place.parent-first (λ z. n (sym e ∙ z))
      (ap (first_child_of l') (e ∙ sym q) ∙ T.leaf refl)
  none-meets i h e (step {i = u} n c) (inr o) =
      none-meets u (subst (λ x. owner_of l' x ≢ 0) e (((shaped l' T.shape).cap i h).parent-lives (λ z. n (sym e ∙ z))))
      refl c o

  pub none-under : (i : ℕ) → owner_of l' i ≢ 0 → Under (parent_of l) k i → ⊥
  none-under i h u = none-meets i h refl
      (subst (λ (p : ℕ → ℕ). Climbs p (p i) u.way) (sym T.rows.parents) u.climbs) u.meets

module _ {b l w : List ℕ} (W : WellFormed b l w) {k : ℕ} (L : LivingCap l k) where
  abbrev s₀ : State
  s₀ = view b l w

  abbrev l₁ : List ℕ
  l₁ = pruned_links l k

  abbrev T₁ : Pruning l k l₁ 0
  T₁ = pruned L

  pub below-gone : (i : ℕ) → below s₀ k i ≡ true → owner_of l₁ i ≡ 0
  unfolding below
  below-gone i t =
      let a = all2 (descends s₀ i k) (not (eqb i k)) t in
      by-eq (owner_of l₁ i) 0 (λ z. z) (λ h. ⊎_elim
      (λ e. absurd (none-under T₁ i h (descends-under W k i (λ z. h (e ∙ z)) a.0
      (eqb-false i k (not-is-true (eqb i k) a.1)))))
      (λ e. e.0) (T₁.ends i))

  below_stays : (i : ℕ) → below s₀ k i ≡ false → owner_of l₁ i ≡ owner_of l i
  unfolding below
  below_stays i t = ⊎_elim (λ e. e)
      (λ e. by-eq (owner_of l i) 0 (λ z. e.0 ∙ sym z) (λ h.
      let n : i ≢ k = λ q. T₁.live (ap (owner_of l₁) (sym q) ∙ e.0) in
      absurd (true≢false (sym (both_true (descends s₀ i k) (not (eqb i k)) (under-descends W k i h e.1)
      (ap not (ne_eqb i k n))) ∙ t)))) (T₁.ends i)

  -- all below k have ended, and no other
  pub pruned-ended : Ended l l₁ (below s₀ k)
  pruned-ended = record { rows = T₁.rows; gone = below-gone; stays = below_stays }

  pub pruned-view : view b l₁ w ≡ end_where s₀ (below s₀ k)
  pruned-view = ended-view b l w l₁ (below s₀ k) pruned-ended
