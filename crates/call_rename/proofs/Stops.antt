-- The run by what the code found in the cells: which of its refusals stops it, or what it leaves.
use Prim.Native.Nat.{ℕ, ◌+◌, ◌≤◌}
use mathlib.Core.Path.{◌≡◌, refl, sym, ap, ◌∙◌}
use mathlib.Core.Logic.{◌≢◌}
use mathlib.Core.Bool.{Bool, true, false}
use mathlib.Core.List.{List}
use native.Mathlib.Omega.{arith}
use lib.ListN.{get_or}
use borrow.Author.Tests.{eq-eqb, ne_eqb}
use Rattle.rules.specs.Slots.{some}
use Rattle.rules.specs.Store.{Name, Password}
use Rattle.rules.specs.Call.{hands_back}
use Rattle.rules.specs.Refusals.{◌when◌, first}
use Rattle.layout.specs.Layout as Layout
use Rattle.layout.specs.Rows.{field, owner_of, parent_of}
use Rattle.layout.specs.View.{view}
use Rattle.layout.proofs.Field.{field_in, field-low, field-high}
use Rattle.call_steps.specs.Refuses.{Refuses}
use Rattle.call_steps.specs.Replies.{Gives}
use Rattle.call_steps.specs.Tests.{CapSlot, taken}
use Rattle.call_steps.specs.Request.{Reply}
use Rattle.values.specs.Refusals.{code_of}
use Rattle.call_steps.proofs.Replying.{refused-code, gives-code, replies-stopped, replies-done}
use Rattle.call_prune.specs.Links.{LivingCap}
use Rattle.call_prune.proofs.Clearing.{scratch-done, scratch-kept}
use Rattle.call_rename.specs.Runs.{rename_stop, renamed, rename_run, Renews, Renames}

-- ---- cells

pub slot_of : {l : List ℕ} {k : ℕ} → LivingCap l k → CapSlot k
slot_of {l} {k} L = record {
  low = field-low 512 Layout.OWNER l k L.live;
  high = field-high 512 Layout.OWNER l k L.live;
}

pub cap_high : {l : List ℕ} {k : ℕ} → LivingCap l k → k ≤ 512
cap_high L = (slot_of L).high

pub cell : {l : List ℕ} {k : ℕ} → LivingCap l k → (off : ℕ) → field 512 off l k ≡ get_or l (off + k) 0
cell {l} {k} L off = let at = slot_of L in field_in 512 off l k at.low at.high

-- ---- the run

pub stop-child : (b l w : List ℕ) (k p1 : ℕ) → parent_of l k ≢ 0 → rename_stop b l w k p1 ≡ 11
unfolding rename_stop first ◌when◌
stop-child b l w k p1 nz = rw (ne_eqb (parent_of l k) 0 nz)

-- the test of p1 in object o is that in the object of k
test-is : (b l w : List ℕ) (k p1 : ℕ) {o : ℕ} → o ≡ owner_of l k → {t : Bool} → t ≡ some 512 (taken (view b l w) o p1)
    → some 512 (taken (view b l w) (owner_of l k) p1) ≡ t
test-is b l w k p1 q e = ap (λ i. some 512 (taken (view b l w) i p1)) (sym q) ∙ sym e

module _ {b l w scratch : List ℕ} {k : ℕ} {drawn : Password} {r : Reply} where
  -- 11
  pub not-master : parent_of l k ≢ 0 → Refuses 11 r → Renames b l w scratch k drawn r l w scratch
  unfolding rename_run
  not-master nz R = record {
    replies = replies-stopped (renamed b l w k drawn) 11 (stop-child b l w k drawn.p1 nz) (omega arith) R;
    scratch-left = scratch-kept (code_of r) scratch (λ z. omega (arith, refused-code R));
  }

  -- o is the object, t whether p1 is taken in it
  module _ (z : parent_of l k ≡ 0) {o : ℕ} (q : o ≡ owner_of l k) {t : Bool}
      (e : t ≡ some 512 (taken (view b l w) o drawn.p1)) where
    -- 12
    pub p1-taken : t ≡ true → Refuses 12 r → Renames b l w scratch k drawn r l w scratch
    unfolding rename_run rename_stop first ◌when◌
    p1-taken y R = record {
      replies = replies-stopped (renamed b l w k drawn) 12 (rw (eq-eqb (parent_of l k) 0 z, test-is b l w k drawn.p1 q e, y)) (omega arith) R;
      scratch-left = scratch-kept (code_of r) scratch (λ x. omega (arith, refused-code R));
    }

    pub renews : {l' w' scratch' : List ℕ} {n : Name} → t ≡ false → n ≡ ((view b l w).object o).name
        → Gives (hands_back n drawn) r → Renews l w scratch k drawn l' w' scratch'
        → Renames b l w scratch k drawn r l' w' scratch'
    unfolding rename_run rename_stop renamed first ◌when◌ hands_back
    renews x n H N = record {
      replies = replies-done b l w (renamed b l w k drawn) (rw (eq-eqb (parent_of l k) 0 z, test-is b l w k drawn.p1 q e, x)) (record {
        none = H.none;
        answer = H.answer (view b l w) ∙ ap (λ i. (hands_back i drawn (view b l w)).answer) (n ∙ ap (λ i. ((view b l w).object i).name) q);
        bytes = refl;
        links = N.links;
        words = N.words;
      });
      scratch-left = N.cleared ∙ scratch-done (code_of r) scratch (gives-code H (view b l w));
    }
