-- Each done call, by its law: what it leaves is well formed, has the money total, and stands beside its ledger.
use Prim.Native.Nat.{ℕ}
use mathlib.Core.Path.{◌≡◌, refl}
use mathlib.Core.List.{List, [], ◌∷◌}
use Rattle.rules.specs.Store.{Message, State}
use Rattle.rules.specs.Valid.{Formed}
use Rattle.rules.specs.Rights.{Op, make_obj, read, write, cap_info, derive_cap, delete_cap, rename_obj, withdraw}
use Rattle.rules.specs.Rights.{deposit, suspend, resume, apply_lock, send, receive, wait, revive, unknown}
use Rattle.rules.specs.Rights.{presents}
use Rattle.rules.specs.Call.{Call, Choice, done, hands_over, tells}
use Rattle.rules.specs.Update.{with_bytes, with_cash, with_marks, with_box}
use Rattle.rules.specs.Changes.{earn, spend, set_suspended, set_waiting, set_terminated}
use Rattle.rules.specs.Calls.{read_does, write_does, cap_info_does, emptied, suspend_does, resume_does, send_does}
use Rattle.rules.specs.Calls.{receive_does, revive_does, does}
use Rattle.rules.specs.Ledger.{Ledger, entry}
use Rattle.rules.specs.Demand.{Words, FreeObject, FreeCap}
use Rattle.rules.proofs.Sound.{Kept, kept_same}
use Rattle.rules.proofs.Link.{Linking}
use Rattle.rules.proofs.Ready.{Ready}
use Rattle.rules.proofs.Keeping.{keep-write, keep-suspend, keep-resume, keep-send, keep-receive, keep-wait}
use Rattle.rules.proofs.Keeping.{keep-revive, wait_by}
use Rattle.rules.proofs.Purse.{keep-withdraw, keep-deposit, link-withdraw, link-deposit}
use Rattle.rules.proofs.Locking.{keep-apply-lock, link-apply-lock}
use Rattle.rules.proofs.Deriving.{keep-derive, link-derive}
use Rattle.rules.proofs.Making.{keep-make, link-make}
use Rattle.rules.proofs.Deleting.{keep-delete, link-delete}
use Rattle.rules.proofs.Renaming.{keep-rename, link-rename}

-- the slots that the call takes were free in the store that the fee left
pub record Takes (s : State) (c : Call) (me k : ℕ) (h : Choice) (o : Op) : Type 0 where
  pub object : o ≡ make_obj → FreeObject s h.object
  pub made : o ≡ make_obj → FreeCap s h.cap
  pub derived : o ≡ derive_cap → FreeCap s h.cap
  pub renamed : o ≡ rename_obj → FreeCap (emptied s c me k) h.cap

module _ (s : State) (G : Formed s) (c : Call) (me k : ℕ) (h : Choice) (W : Words c) where
  pub keeps : (o : Op) → Ready s c me k o → Takes s c me k h o → Kept s (does s c me k h o).after
  unfolding does presents read_does cap_info_does done hands_over tells
  keeps make_obj r q = keep-make s G c me k W r h (q.object refl) (q.made refl)
  keeps read r q = kept_same G
  keeps write r q = keep-write s G c me k r
  keeps cap_info r q = kept_same G
  keeps derive_cap r q = keep-derive s G c me k W r h (q.derived refl)
  keeps delete_cap r q = keep-delete s G c me k (r.shown refl).lives
  keeps rename_obj r q = keep-rename s G c me k W r h (q.renamed refl)
  keeps withdraw r q = keep-withdraw s G c me k r
  keeps deposit r q = keep-deposit s G c me k r
  keeps suspend r q = keep-suspend s G c me k r
  keeps resume r q = keep-resume s G c me k r
  keeps apply_lock r q = keep-apply-lock s G c me k r W.lock2
  keeps send r q = keep-send s G c me k r
  keeps receive r q = keep-receive s G c me k r
  keeps wait r q = keep-wait s G c me k r
  keeps revive r q = keep-revive s G c me k r
  keeps unknown r q = kept_same G

  module _ (l : Ledger) (K : Linking s l) where
    -- most calls leave the linked parts of the store and the ledger alone
    pub links : (o : Op) → Ready s c me k o → Takes s c me k h o
        → Linking (does s c me k h o).after (entry l c (K.num k) o)
    unfolding does entry presents read_does write_does cap_info_does suspend_does resume_does send_does receive_does revive_does
        done hands_over tells earn spend with_cash with_bytes with_box set_suspended set_waiting set_terminated
        with_marks
    links make_obj r q = link-make s G c me k W r h (q.object refl) (q.made refl) l K
    links read r q = K
    links write r q = K
    links cap_info r q = K
    links derive_cap r q = link-derive s G c me k W r h (q.derived refl) l K
    links delete_cap r q = link-delete s G c me k (r.shown refl).lives l K
    links rename_obj r q = link-rename s G c me k W r h (q.renamed refl) l K
    links withdraw r q = link-withdraw s G c me k l K r
    links deposit r q = link-deposit s G c me k l K r
    links suspend r q = K
    links resume r q = K
    links apply_lock r q = link-apply-lock s G c me k r l K
    links send r q = K
    links receive r q = received (s.box me)
      where
        received : (m : List Message) → Linking (receive_does s c me k m).after l
        received [] = K
        received (x ∷ m) = K
    links wait r q = wait_by s c me k (λ x. Linking x.after l) (λ _. K) K
    links revive r q = K
    links unknown r q = K
