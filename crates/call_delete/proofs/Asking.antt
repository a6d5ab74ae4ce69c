-- What the steps of delete_cap ask, and the run as the code comes to it.
use Prim.Native.Nat.{ℕ, ◌+◌}
use mathlib.Core.Path.{◌≡◌, refl, sym, ap, ◌∙◌}
use mathlib.Core.Logic.{◌≢◌}
use mathlib.Core.List.{List}
use native.Mathlib.Omega.{arith}
use lib.Dec.{eqb}
use lib.ListN.{length, get_or, replicate}
use borrow.Author.Tests.{eq-eqb, ne_eqb}
use Rattle.rules.specs.Call.{code, done}
use Rattle.rules.proofs.Tests.{pick_yes, pick-not}
use Rattle.layout.specs.Layout as Layout
use Rattle.layout.specs.Rows.{owner_of, parent_of}
use Rattle.layout.specs.View.{view}
use Rattle.layout.proofs.Field.{field_in}
use Rattle.layout.proofs.Kept.{cells-kept}
use Rattle.layout.proofs.Shaped.{CapShaped, shaped}
use Rattle.call_steps.specs.Request.{Reply}
use Rattle.values.specs.Refusals.{code_of}
use Rattle.call_steps.specs.Run.{over}
use Rattle.call_steps.specs.Replies.{Gives}
use Rattle.call_steps.proofs.Replying.{gives-code, done-is}
use Rattle.call_prune.specs.Links.{pruned_links, deleted_links, LivingCap, Child}
use Rattle.call_prune.proofs.Pruning.{Pruning}
use Rattle.call_prune.proofs.Measuring.{pruned}
use Rattle.call_prune.proofs.Clearing.{scratch-done}
use Rattle.call_ending.specs.Ended.{EndAsks, EndsObject, Last}
use Rattle.call_ending.proofs.Money.{forfeit-fits}
use Rattle.call_ending.proofs.Requires.{end-asks}
use Rattle.call_delete.specs.Runs.{master_links, master_words, delete_run, DeleteAsks, MasterAsks, MasterEnds, Deletes}

module _ {b l w : List ℕ} {k : ℕ} (a : DeleteAsks b l w k) where
  pub living : LivingCap l k
  living = record { links = a.sized.links; shape = a.shape; live = a.held.live }

  pub parent-cell : parent_of l k ≡ get_or l (Layout.PARENT + k) 0
  parent-cell = field_in 512 Layout.PARENT l k a.held.low a.held.high

  pub child : get_or l (Layout.PARENT + k) 0 ≢ 0 → Child l k
  child nz = record { living = living; parent = λ z. nz (sym parent-cell ∙ z) }

  pub of-child : {l' : List ℕ} → get_or l (Layout.PARENT + k) 0 ≢ 0 → l' ≡ deleted_links l k
      → over 0 b l' w ≡ delete_run b l w k
  unfolding delete_run
  of-child nz e = ap (λ x. over 0 b x w) e
      ∙ sym (pick-not (eqb (parent_of l k) 0) _ _ (ne_eqb _ 0 (λ z. nz (sym parent-cell ∙ z))))

  pub of-master : {l' w' : List ℕ} → get_or l (Layout.PARENT + k) 0 ≡ 0 → MasterEnds b l w k l' w'
      → over 0 b l' w' ≡ delete_run b l w k
  unfolding delete_run
  of-master {l'} {w'} z M = ap (λ x. over 0 b x w') M.links ∙ ap (over 0 b (master_links l k)) M.words
      ∙ sym (pick_yes (eqb (parent_of l k) 0) _ _ (eq-eqb _ 0 (parent-cell ∙ z)))

  -- the reply, and the scratch all zero
  pub deletes : {scratch scratch' l' w' : List ℕ} {r : Reply} → Gives done r → over 0 b l' w' ≡ delete_run b l w k
      → scratch' ≡ replicate (length scratch) 0 → Deletes b l w scratch k r l' w' scratch'
  unfolding done code
  deletes {scratch} {r = r} G e z = record {
    replies = done-is G e;
    scratch-left = z ∙ scratch-done (code_of r) scratch (gives-code G (view b l w));
  }

  -- ---- a master, once its descendants have ended

  module _ (top : parent_of l k ≡ 0) where
    abbrev T : Pruning l k (pruned_links l k) 0
    T = pruned living

    abbrev S : CapShaped l (owner_of l k) k
    S = (shaped l a.shape).cap k a.held.live

    pub last : Last b (pruned_links l k) w (owner_of l k) k
    last = record {
      sized = record {
        bytes = a.sized.bytes;
        links = T.rows.sized ∙ a.sized.links;
        words = a.sized.words;
      };
      cells = cells-kept b l b (pruned_links l k) T.rows.masters refl refl refl refl refl refl a.cells;
      shape = T.shape;
      master = (λ x. T.rows.masters x (owner_of l k)) ∙ S.master-is top;
      live = λ z. omega (arith, a.held.low, z);
      leaf = T.leaf refl;
    }

    pub master-asks : EndAsks b (pruned_links l k) w (owner_of l k) k
    master-asks = end-asks last (forfeit-fits b l w (owner_of l k) k S.owner-lives a.held.live top a.total)

module _ {b l w : List ℕ} {k o : ℕ} (a : MasterAsks b l w k) (e : o ≡ get_or l (Layout.OWNER + k) 0) where
  owner-is : owner_of l k ≡ o
  owner-is = field_in 512 Layout.OWNER l k a.asks.held.low a.asks.held.high ∙ sym e

  pub end_of : {l₁ : List ℕ} → l₁ ≡ pruned_links l k → EndAsks b l₁ w o k
  end_of q = rw (q, ← owner-is) (master-asks a.asks a.top)

  pub ends-master : {l₁ l' w' : List ℕ} → l₁ ≡ pruned_links l k → EndsObject b l₁ w o k l' w' → MasterEnds b l w k l' w'
  unfolding master_links master_words
  ends-master q E = record { links = rw (owner-is, ← q) E.links; words = rw owner-is E.words }
