-- "delete_cap: no more. The capability and all its descendants end." of one that is no master: the links that are left
-- are of a well-formed store's shape, and mean what the rules say.
use Prim.Native.Nat.{ℕ}
use mathlib.Core.Path.{◌≡◌, refl, sym, ap, ◌∙◌}
use mathlib.Core.Logic.{◌≢◌}
use mathlib.Core.Bool.{not, ◌&&◌, true≢false}
use mathlib.Core.List.{List}
use lib.Dec.{eqb}
use borrow.Author.Tests.{ne_eqb}
use Rattle.rules.specs.Store.{State, descends}
use Rattle.rules.specs.Call.{Call}
use Rattle.rules.specs.Calls.{deleted}
use Rattle.rules.proofs.Tests.{by-eq, both_true}
use Rattle.rules.proofs.Forest.{descends-self}
use Rattle.rules.proofs.Slots.{at_here, at-else}
use Rattle.layout.specs.Rows.{owner_of, parent_of}
use Rattle.layout.specs.View.{view}
use Rattle.layout.specs.Shape.{Shape}
use Rattle.layout.specs.WellFormed.{Sized, Cells, WellFormed}
use Rattle.layout.proofs.Shown.{cap-shown}
use Rattle.call_prune.specs.Links.{pruned_links, deleted_links, NamesSlots, Child}
use Rattle.call_prune.proofs.Dropping.{SameRows, rows_then, dropped-rows, dropped-owners}
use Rattle.call_prune.proofs.Shapes.{dropped-shape}
use Rattle.call_prune.proofs.Pruning.{Pruning}
use Rattle.call_prune.proofs.Measuring.{pruned, pruned-placed}
use Rattle.call_prune.proofs.Ending.{Ended, ended-view, rows-sized, rows-cells, below, pruned-ended}

module _ {l : List ℕ} {k : ℕ} (C : Child l k) where
  abbrev l₁ : List ℕ
  l₁ = pruned_links l k

  abbrev l₂ : List ℕ
  l₂ = deleted_links l k

  abbrev T : Pruning l k l₁ 0
  T = pruned C.living

  abbrev P : NamesSlots l₁ k
  P = pruned-placed C.living

  has-parent : parent_of l₁ k ≢ 0
  has-parent z = C.parent ((λ x. sym T.rows.parents x k) ∙ z)

  deleted-rows : SameRows l l₂
  unfolding deleted_links
  deleted-rows = rows_then T.rows (dropped-rows P has-parent)

  deleted-here : owner_of l₂ k ≡ 0
  unfolding deleted_links
  deleted-here = (λ x. dropped-owners P has-parent x k) ∙ at_here (owner_of l₁) k 0

  deleted-else : (i : ℕ) → i ≢ k → owner_of l₂ i ≡ owner_of l₁ i
  unfolding deleted_links
  deleted-else i n = (λ x. dropped-owners P has-parent x i) ∙ at-else (owner_of l₁) k 0 i n

  pub deleted-shape : Shape (deleted_links l k)
  unfolding deleted_links
  deleted-shape =
      dropped-shape l₁ k (T.rows.sized ∙ C.living.links) T.shape T.live has-parent (T.leaf refl)

  module _ {b w : List ℕ} (W : WellFormed b l w) where
    abbrev s : State
    s = view b l w

    -- k and all its descendants have ended, and no other
    pub deleted-ended : Ended l (deleted_links l k) (λ i. descends (view b l w) i k)
    unfolding below
    deleted-ended =
        let E = pruned-ended W C.living in
        record {
          rows = deleted-rows;
          gone = λ i t. by-eq i k
              (λ e. ap (owner_of l₂) e ∙ deleted-here)
              (λ n. deleted-else i n ∙ E.gone i (both_true (descends s i k) (not (eqb i k)) t (ap not (ne_eqb i k n))));
          stays = λ i t.
              let n : i ≢ k = λ e. true≢false (
              sym (descends-self s W.valid.formed.caps k (cap-shown b l w k C.living.live))
              ∙ ap (λ x. descends s x k) (sym e) ∙ t) in
              deleted-else i n ∙ E.stays i (ap (λ x. x && not (eqb i k)) t);
        }

    pub deleted-view : (c : Call) (me : ℕ) → view b (deleted_links l k) w ≡ deleted (view b l w) c me k
    unfolding deleted
    deleted-view c me = ended-view b l w l₂ (λ i. descends s i k) deleted-ended

    pub deleted-sized : Sized b (deleted_links l k) w
    deleted-sized = rows-sized W deleted-rows

    pub deleted-cells : Cells b (deleted_links l k)
    deleted-cells = rows-cells W deleted-rows
