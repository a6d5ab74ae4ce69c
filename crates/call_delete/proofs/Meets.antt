-- The run of delete_cap is what the rules give of its own part: 01, "delete_cap: no more. The capability and all its
-- descendants end. With a master the object ends too; its moneyword, cash and box sums go to the house."
use Prim.Native.Nat.{ℕ, ◌+◌}
use mathlib.Core.Path.{◌≡◌, refl, sym, ap, ◌∙◌, fun_ext}
use mathlib.Core.Logic.{◌≢◌}
use mathlib.Core.Bool.{Bool, true, false, ◌&&◌, ◌||◌}
use mathlib.Core.List.{List}
use lib.Dec.{eqb}
use borrow.Author.Tests.{eqb-true, eqb-false, eq-eqb, ne_eqb}
use Rattle.rules.specs.Store.{Cap, State, no_cap, descends, sums_in}
use Rattle.rules.specs.Rights.{delete_cap, op}
use Rattle.rules.specs.Call.{Call, done}
use Rattle.rules.specs.Refusals.{first}
use Rattle.rules.specs.Update.{with_cap, with_money}
use Rattle.rules.specs.Changes.{to_house, end_where, end_object}
use Rattle.rules.specs.Calls.{refuses, does, deleted, forfeit}
use Rattle.rules.proofs.Tests.{by-eq, pick-by}
use Rattle.rules.proofs.Forest.{descends-self}
use Rattle.rules.proofs.Deleting.{delete-by}
use Rattle.layout.specs.Rows.{owner_of, parent_of}
use Rattle.layout.specs.View.{view}
use Rattle.layout.specs.WellFormed.{WellFormed}
use Rattle.layout.proofs.Shaped.{shaped}
use Rattle.layout.proofs.Shown.{cap-object, cap-shown, parent_is}
use Rattle.layout.proofs.Frame.{state-is}
use Rattle.call_steps.specs.Run.{Held, over, Meets}
use Rattle.call_steps.proofs.Meeting.{takes, Does, meets-done}
use Rattle.call_prune.specs.Links.{pruned_links, deleted_links, Child}
use Rattle.call_prune.proofs.Ending.{below, pruned-view}
use Rattle.call_prune.proofs.Deleting.{deleted-shape, deleted-view, deleted-sized, deleted-cells}
use Rattle.call_ending.specs.Forfeit.{forfeited}
use Rattle.call_ending.specs.Ended.{Last}
use Rattle.call_ending.proofs.Money.{forfeited-is}
use Rattle.call_ending.proofs.EndedShape.{ended-shape, ended-cells}
use Rattle.call_ending.proofs.EndedView.{rows, ended-view, ended-sized}
use Rattle.call_delete.specs.Runs.{master_links, master_words, delete_run, DeleteAsks}
use Rattle.call_delete.proofs.Asking.{living, last}

-- ---- some end, and then others

pick-or : {A : Type 0} (a b : Bool) (x y : A)
    → ◌≡◌ {A = A} (elim a [ true ↦ x | false ↦ elim b [ true ↦ x | false ↦ y ] ])
    (elim (a || b) [ true ↦ x | false ↦ y ])
pick-or true b x y = refl
pick-or false b x y = refl

pub end-twice : (s : State) (t u v : ℕ → Bool) → ((i : ℕ) → (u i || t i) ≡ v i)
    → end_where (end_where s t) u ≡ end_where s v
unfolding end_where with_money with_cap
end-twice s t u v h = state-is (end_where (end_where s t) u) (end_where s v) refl refl refl refl refl refl refl refl
    (fun_ext (λ i. pick-or (u i) (t i) no_cap (s.cap i)
    ∙ ap (λ (x : Bool). elim x as (λ _. Cap) [ true ↦ no_cap | false ↦ s.cap i ]) (h i)))
    (fun_ext (λ i. pick-or (u i) (t i) 0 (s.money i)
    ∙ ap (λ (x : Bool). elim x as (λ _. ℕ) [ true ↦ 0 | false ↦ s.money i ]) (h i)))

and_yes : (a : Bool) → (a && true) ≡ a
and_yes true = refl
and_yes false = refl

module _ {b l w : List ℕ} (W : WellFormed b l w) where
  pub delete-asks : {k : ℕ} → Held l k → DeleteAsks b l w k
  delete-asks h = record {
    sized = W.sized;
    cells = W.cells;
    shape = W.shape;
    held = h;
    total = W.valid.total;
  }

  module _ (c : Call) (me k : ℕ) (h : Held l k) where
    abbrev s : State
    s = view b l w

    abbrev o : ℕ
    o = owner_of l k

    -- ---- a master

    -- k, and all below it
    all_of : (i : ℕ) → (eqb i k || below s k i) ≡ descends s i k
    unfolding below
    all_of i = by-eq i k
        (λ e. rw (eq-eqb i k e) (sym (ap (λ x. descends s x k) e
        ∙ descends-self s W.valid.formed.caps k (cap-shown b l w k h.live))))
        (λ ne. rw (ne_eqb i k ne) (and_yes (descends s i k)))

    pruned-ends : end_where (view b (pruned_links l k) w) (λ i. eqb i k) ≡ deleted s c me k
    unfolding deleted
    pruned-ends = ap (λ x. end_where x (λ i. eqb i k)) (pruned-view W (living (delete-asks h)))
        ∙ end-twice s (below s k) (λ i. eqb i k) (λ i. descends s i k) all_of

    forfeit-is : forfeited b w o k ≡ forfeit s c me k
    unfolding forfeit
    forfeit-is = forfeited-is b l w o k ((shaped l W.shape).cap k h.live).owner-lives h.live
        ∙ ap (λ x. s.money k + s.cash x + sums_in (s.box x)) (sym (cap-object b l w k))

    module _ (top : parent_of l k ≡ 0) where
      abbrev L : Last b (pruned_links l k) w o k
      L = last (delete-asks h) top

      shows : view b (master_links l k) (master_words b l w k)
          ≡ to_house (end_object (deleted s c me k) (s.cap k).object) (forfeit s c me k)
      unfolding master_links master_words
      shows = ended-view L
          ∙ ap (λ x. to_house (end_object x o) (forfeited b w o k)) pruned-ends
          ∙ ap (λ x. to_house (end_object (deleted s c me k) x) (forfeited b w o k)) (sym (cap-object b l w k))
          ∙ ap (to_house (end_object (deleted s c me k) (s.cap k).object)) forfeit-is

      master-does : Does s c me k delete_cap (over 0 b (master_links l k) (master_words b l w k))
      unfolding over done does master_links master_words
      master-does = record {
        rules = delete-by s c me k (λ x. x ≡ done (view b (master_links l k) (master_words b l w k)))
            (λ z. ap done (sym shows))
            (λ nz. absurd (nz (parent_is b l w k h.live ∙ top)));
        sized = ended-sized L;
        cells = ended-cells L (master_links l k) (rows L);
        links = ended-shape L (master_links l k) (rows L);
      }

    -- ---- no master

    module _ (under : parent_of l k ≢ 0) where
      abbrev C : Child l k
      C = record { living = living (delete-asks h); parent = under }

      child-does : Does s c me k delete_cap (over 0 b (deleted_links l k) w)
      unfolding over done does
      child-does = record {
        rules = delete-by s c me k (λ x. x ≡ done (view b (deleted_links l k) w))
            (λ z. absurd (under (sym (parent_is b l w k h.live) ∙ z)))
            (λ nz. ap done (sym (deleted-view C W c me)));
        sized = deleted-sized C W;
        cells = deleted-cells C W;
        links = deleted-shape C;
      }

    -- ---- the whole

    run-does : Does s c me k delete_cap (delete_run b l w k)
    unfolding delete_run
    run-does = pick-by (Does s c me k delete_cap) (eqb (parent_of l k) 0) _ _
        (λ e. master-does (eqb-true _ _ e))
        (λ e. child-does (eqb-false _ _ e))

    pub delete-meets : op c.number ≡ delete_cap → Meets s c me k delete_cap (delete_run b l w k)
    unfolding takes refuses first
    delete-meets e = meets-done b l w c me k delete_cap (rw e refl) refl run-does
