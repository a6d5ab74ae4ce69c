-- rename_obj's run is what the rules give of its own part: 01, "rename_obj" of "What each call refuses, in order". The
-- slot that it takes is the old master's own, which is free once all capabilities of the object have ended.
use Prim.Native.Nat.{ℕ}
use mathlib.Core.Path.{◌≡◌, refl, sym, ap, ◌∙◌, subst}
use mathlib.Core.Logic.{◌≢◌}
use mathlib.Core.Bool.{not}
use mathlib.Core.List.{List}
use native.Mathlib.Omega.{arith}
use lib.Dec.{eqb}
use borrow.Author.Tests.{eq-eqb}
use Rattle.rules.specs.Store.{Cap, State, no_cap, cap_lives}
use Rattle.rules.specs.Rights.{Op, make_obj, derive_cap, rename_obj, op, asked}
use Rattle.rules.specs.Call.{Call, Choice, hands_back}
use Rattle.rules.specs.Password.{presented}
use Rattle.rules.specs.Refusals.{first, caller}
use Rattle.rules.specs.Calls.{rename_obj_refuses, rename_obj_does, emptied, refuses, does}
use Rattle.rules.specs.Demand.{FreeCap, Open}
use Rattle.rules.proofs.Tests.{by-eq}
use Rattle.rules.proofs.Ending.{end-cap}
use Rattle.layout.specs.Rows.{parent_of}
use Rattle.layout.specs.View.{view}
use Rattle.layout.specs.WellFormed.{WellFormed}
use Rattle.layout.proofs.Shaped.{shaped}
use Rattle.layout.proofs.Shown.{cap-object, parent_is}
use Rattle.call_steps.specs.Run.{Held, Meets}
use Rattle.call_steps.proofs.Meeting.{Takes, meets-taken}
use Rattle.call_steps.proofs.Replying.{hands-back-is}
use Rattle.call_steps.proofs.Sharing.{p1-taken-is}
use Rattle.call_prune.specs.Links.{LivingCap}
use Rattle.call_prune.proofs.Measuring.{pruned}
use Rattle.call_prune.proofs.Ending.{rows-sized, rows-cells}
use Rattle.call_prune.proofs.Formed.{living-of}
use Rattle.call_rename.specs.Runs.{rename_stop, renamed, rename_run, RenameAsks}
use Rattle.call_rename.proofs.Stops.{slot_of, stop-child}
use Rattle.call_rename.proofs.Renamed.{renamed-view, renamed-words}

-- what the code asks follows from well-formedness
pub rename-asks : {b l w : List ℕ} {k : ℕ} → WellFormed b l w → Held l k → RenameAsks b l w k
rename-asks {l = l} {k = k} W H =
    let f = (shaped l W.shape).cap k H.live in
    record {
      sized = W.sized;
      living = living-of W H.live;
      object = record { low = f.owner-low; high = f.owner-high };
      live = f.owner-lives;
    }

-- the old master's own slot
abbrev pub own-slot : ℕ → Choice
own-slot k = record { object = 0; cap = k }

module _ {b l w : List ℕ} (W : WellFormed b l w) (c : Call) (me k : ℕ) (H : Held l k) (o : op c.number ≡ rename_obj)
    (me-is : me ≡ caller (view b l w) c) (k-is : k ≡ presented (view b l w) (caller (view b l w) c) c.presented)
  where
    abbrev s : State
    s = view b l w

    abbrev L : LivingCap l k
    L = living-of W H.live

    rename-stop : rename_stop b l w k c.drawn.p1 ≡ first (rename_obj_refuses s c me k)
    unfolding rename_stop rename_obj_refuses
    rename-stop = rw (p1-taken-is s c me k, parent_is b l w k H.live, cap-object b l w k)

    -- ---- what is taken was free

    no_call : (q : Op) → asked q ≢ asked rename_obj → op c.number ≡ q → ⊥
    no_call q n e = n (ap asked (sym e ∙ o))

    free-k : FreeCap (emptied s c me k) k
    unfolding FreeCap cap_lives emptied no_cap
    free-k = (
      (slot_of L).low,
      (slot_of L).high,
      ap (λ (x : Cap). not (eqb x.object 0))
          (end-cap s (λ i. eqb (s.cap i).object (s.cap k).object) k (eq-eqb (s.cap k).object (s.cap k).object refl)),
    )

    open-k : Open s c (own-slot k)
    unfolding asked
    open-k = record {
      object = λ e. absurd (no_call make_obj (λ z. omega arith) e);
      made = λ e. absurd (no_call make_obj (λ z. omega arith) e);
      derived = λ e. absurd (no_call derive_cap (λ z. omega arith) e);
      renamed = λ _. subst (λ i. FreeCap (emptied s c (caller s c) i) k) k-is
          (subst (λ i. FreeCap (emptied s c i k) k) me-is free-k);
    }

    -- ---- what is done

    master-k : rename_stop b l w k c.drawn.p1 ≡ 0 → parent_of l k ≡ 0
    master-k z = by-eq (parent_of l k) 0 (λ e. e)
        (λ nz. absurd (omega (arith, z, stop-child b l w k c.drawn.p1 nz)))

    rename-takes : rename_stop b l w k c.drawn.p1 ≡ 0
        → Takes s c me k rename_obj (own-slot k) (renamed b l w k c.drawn)
    unfolding does rename_obj_does renamed
    rename-takes z = record {
      free = open-k;
      rules = hands-back-is (s.object (s.cap k).object).name c.drawn _ s ∙ (λ x. record {
        answer = (hands_back (s.object (cap-object b l w k x)).name c.drawn s).answer;
        after = sym (renamed-view W L (master-k z) c me) x;
      });
      sized = let r = rows-sized W (pruned L).rows in record {
        bytes = r.bytes;
        links = r.links;
        words = renamed-words W L (master-k z) c me;
      };
      cells = rows-cells W (pruned L).rows;
      links = (pruned L).shape;
    }

    pub rename-meets : Meets (view b l w) c me k rename_obj (rename_run b l w k c.drawn)
    unfolding rename_run refuses
    rename-meets = meets-taken b l w c me k rename_obj (own-slot k) W (rename_stop b l w k c.drawn.p1)
        (renamed b l w k c.drawn) rename-stop rename-takes
