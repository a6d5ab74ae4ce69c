-- A well-formed store is well formed once all below a capability have ended.
use Prim.Native.Nat.{ℕ}
use mathlib.Core.Path.{◌≡◌, sym, ap, ◌∙◌, subst}
use mathlib.Core.Logic.{◌≢◌}
use mathlib.Core.Bool.{true, not}
use mathlib.Core.List.{List}
use lib.Dec.{eqb}
use borrow.Author.Tests.{eqb-false, ne_eqb}
use Rattle.rules.specs.Store.{State, descends, money_in}
use Rattle.rules.specs.Valid.{Lives, Formed, Valid}
use Rattle.rules.specs.Update.{with_cap, with_money}
use Rattle.rules.specs.Changes.{end_where}
use Rattle.rules.proofs.Tests.{refuted, both_true, all2, not-is-true}
use Rattle.rules.proofs.Forest.{descends-child, descends-top}
use Rattle.rules.proofs.Sound.{sound-of, formed-of, object-some, Mastered}
use Rattle.rules.proofs.Ending.{end-master, sound-end, total-end-children}
use Rattle.layout.specs.Rows.{owner_of, parent_of}
use Rattle.layout.specs.View.{view}
use Rattle.layout.specs.WellFormed.{WellFormed}
use Rattle.layout.proofs.Shaped.{shaped}
use Rattle.layout.proofs.Shown.{cap-lives, parent_is}
use Rattle.call_prune.specs.Links.{pruned_links, LivingCap}
use Rattle.call_prune.proofs.Pruning.{Pruning}
use Rattle.call_prune.proofs.Measuring.{pruned}
use Rattle.call_prune.proofs.Ending.{below, rows-sized, rows-cells, below-gone, pruned-view}

-- what the code asks of a living capability
pub living-of : {b l w : List ℕ} {k : ℕ} → WellFormed b l w → owner_of l k ≢ 0 → LivingCap l k
living-of W h = record { links = W.sized.links; shape = W.shape; live = h }

module _ {b l w : List ℕ} (W : WellFormed b l w) {k : ℕ} (L : LivingCap l k) where
  abbrev s : State
  s = view b l w

  abbrev G : Formed s
  G = W.valid.formed

  abbrev T : Pruning l k (pruned_links l k) 0
  T = pruned L

  -- k's parent is not below k: it lives on, as k does
  parent_above : (i : ℕ) → i ≡ k → Lives s.cap i → (s.cap i).parent ≢ 0 → below s k (s.cap i).parent ≡ true → ⊥
  parent_above i e h n t =
      let p : ℕ = (s.cap i).parent in
      let q : parent_of (pruned_links l k) k ≡ p =
      (λ x. T.rows.parents x k) ∙ ap (parent_of l) (sym e) ∙ sym (parent_is b l w i (cap-lives b l w i h)) in
      ((shaped (pruned_links l k) T.shape).cap k T.live).parent-lives (λ z. n (sym q ∙ z))
      (ap (owner_of (pruned_links l k)) q ∙ below-gone W L p t)

  below-closed : (i : ℕ) → Lives s.cap i → (s.cap i).parent ≢ 0
      → below s k (s.cap i).parent ≡ true → below s k i ≡ true
  unfolding below
  below-closed i h n t =
      let a = all2 (descends s (s.cap i).parent k) (not (eqb (s.cap i).parent k)) t in
      both_true (descends s i k) (not (eqb i k)) (descends-child s G.caps i k h a.0)
      (ap not (ne_eqb i k (λ e. parent_above i e h n t)))

  -- a master is not below k
  master-not : (i : ℕ) → Lives s.cap i → (s.cap i).parent ≡ 0 → below s k i ≡ true → ⊥
  unfolding below
  master-not i h z t =
      let a = all2 (descends s i k) (not (eqb i k)) t in
      eqb-false i k (not-is-true (eqb i k) a.1) (sym (descends-top s G.caps i k h z a.0))

  mastered : Mastered s.object (end_where s (below s k)).cap
  mastered o e =
      let m = G.master o e in
      end-master s (below s k) m (refuted (below s k m.0)
      (master-not m.0 (λ z. object-some G.objects o e (sym m.1.of ∙ z)) m.1.parent))

  below-valid : Valid (end_where s (below s k))
  unfolding end_where with_money with_cap
  below-valid = record {
    formed = formed-of (sound-end s (below s k) (sound-of G) below-closed) mastered;
    total = rw (total-end-children s (below s k) (sound-of G) below-closed (λ j h t z. master-not j h z t))
        W.valid.total;
    day = W.valid.day;
  }

  -- with the money total that it had
  pub pruned-total : money_in (view b (pruned_links l k) w) ≡ money_in (view b l w)
  pruned-total = ap money_in (pruned-view W L)
      ∙ total-end-children s (below s k) (sound-of G) below-closed (λ j h t z. master-not j h z t)

  pub pruned-formed : WellFormed b (pruned_links l k) w
  pruned-formed = record {
    sized = rows-sized W T.rows;
    cells = rows-cells W T.rows;
    shape = T.shape;
    valid = subst Valid (sym (pruned-view W L)) below-valid;
  }
