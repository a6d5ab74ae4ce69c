-- delete_cap: the first generic edit, with a capability and its descendants; for a master also the third, with no
-- object.
use Prim.Native.Nat.{ℕ}
use mathlib.Core.Path.{◌≡◌, refl, sym, ap, ◌∙◌, subst}
use mathlib.Core.Logic.{◌≢◌}
use mathlib.Core.Bool.{true, true≢false, false≢true}
use native.Mathlib.Omega.{arith}
use lib.Dec.{eqb}
use borrow.Author.Tests.{eqb-true, eqb-false}
use Rattle.rules.specs.Slots.{at}
use Rattle.rules.specs.Store.{Object, State, no_object, descends, blocks}
use Rattle.rules.specs.Valid.{Lives, LiveCap, Formed}
use Rattle.rules.specs.Rights.{delete_cap}
use Rattle.rules.specs.Call.{Call, Outcome, done}
use Rattle.rules.specs.Update.{with_house, with_cap, with_money}
use Rattle.rules.specs.Changes.{to_house, end_where, new_object, end_object}
use Rattle.rules.specs.Calls.{deleted, forfeit, delete_cap_does}
use Rattle.rules.specs.Ledger.{Ledger, leads_back, entry}
use Rattle.rules.proofs.Tests.{refuted, pick-by}
use Rattle.rules.proofs.Slots.{at-by}
use Rattle.rules.proofs.Forest.{descends-self, descends-child, descends-top, master-above, master-unique}
use Rattle.rules.proofs.Sound.{HasMaster, Mastered, Sound, sound-of, formed-of, object-some, sound-house, Kept}
use Rattle.rules.proofs.Link.{Linking, leads-descends}
use Rattle.rules.proofs.Ending.{end_by, end-master, sound-end, total-end-children, total-end-master, link-end}
use Rattle.rules.proofs.Placing.{Goes, sound-place, total-place, link-place}
use Rattle.rules.proofs.Keeping.{total-house}

-- by whether it is a master
pub delete-by : (s : State) (c : Call) (me k : ℕ) (P : Outcome → Type 0)
    → ((s.cap k).parent ≡ 0 → P (done (to_house (end_object (deleted s c me k) (s.cap k).object) (forfeit s c me k))))
    → ((s.cap k).parent ≢ 0 → P (done (deleted s c me k)))
    → P (delete_cap_does s c me k)
unfolding delete_cap_does
delete-by s c me k P a b =
    pick-by P (eqb (s.cap k).parent 0) _ _ (λ e. a (eqb-true _ _ e)) (λ e. b (eqb-false _ _ e))

module _ (s : State) (G : Formed s) (c : Call) (me k : ℕ) (h : Lives s.cap k) where
  -- the test passes on to children
  closed : (i : ℕ) → Lives s.cap i → (s.cap i).parent ≢ 0
      → descends s (s.cap i).parent k ≡ true → descends s i k ≡ true
  closed i g n e = descends-child s G.caps i k g e

  -- a master that ends is k
  master-k : (i : ℕ) → Lives s.cap i → descends s i k ≡ true → (s.cap i).parent ≡ 0 → i ≡ k
  master-k i g e z = sym (descends-top s G.caps i k g z e)

  -- an object whose master is not k keeps it
  stays : {o size : ℕ} → o ≢ 0 → (m : HasMaster s.cap o size) → m.0 ≢ k → HasMaster (deleted s c me k).cap o size
  unfolding deleted
  stays n m d = end-master s _ m (refuted _
      (λ e. d (master-k m.0 (λ z. n (sym m.1.of ∙ z)) e m.1.parent)))

  S' : Sound (deleted s c me k)
  unfolding deleted
  S' = sound-end s _ (sound-of G) closed

  -- ---- not a master

  keep-child : (s.cap k).parent ≢ 0 → Kept s (deleted s c me k)
  unfolding deleted end_where with_money with_cap
  keep-child n = record {
    formed = formed-of S' (λ o e.
        let m = G.master o e in
        stays (object-some G.objects o e) m (λ q. n (ap (λ x. (s.cap x).parent) (sym q) ∙ m.1.parent)));
    total = total-end-children s _ (sound-of G) closed
        (λ j g e z. n (ap (λ x. (s.cap x).parent) (sym (master-k j g e z)) ∙ z));
  }

  -- ---- a master

  module _ (z : (s.cap k).parent ≡ 0) where
    abbrev o : ℕ
    o = (s.cap k).object

    abbrev w : LiveCap s.object k (s.cap k)
    w = G.caps.live k h

    -- every capability of the object ends
    alone : (i : ℕ) → Lives (deleted s c me k).cap i → ((deleted s c me k).cap i).object ≢ (s.cap k).object
    unfolding deleted
    alone = end_by s _ (λ i x. x.object ≢ (s.cap k).object) (λ i g e q.
        let u = master-unique s G.caps i k g h z q in
        true≢false (sym (subst (λ x. descends s i x ≡ true) u (master-above s G.caps i g)) ∙ e))

    goes : Goes (deleted s c me k) (s.cap k).object no_object alone
    unfolding no_object blocks deleted end_where with_money with_cap
    goes =
        let O = G.objects.live o w.owned in
        record {
          some = O.some;
          low = O.low;
          fits = λ e. absurd (false≢true e);
          free = λ e. refl;
          unique = λ e. absurd (false≢true e);
          room = omega arith;
        }

    mastered : Mastered (at s.object (s.cap k).object no_object) (deleted s c me k).cap
    unfolding no_object
    mastered = at-by (λ j (y : Object). y.live ≡ true → HasMaster (deleted s c me k).cap j y.size)
        s.object o no_object
        (λ e. absurd (false≢true e))
        (λ j n e.
        let m = G.master j e in
        stays (object-some G.objects j e) m (λ q. n (sym m.1.of ∙ ap (λ x. (s.cap x).object) q)))

    keep-master : Kept s (to_house (end_object (deleted s c me k) (s.cap k).object) (forfeit s c me k))
    unfolding to_house with_house end_object new_object deleted end_where with_money with_cap forfeit
    keep-master =
        let d : State = deleted s c me k in
        record {
          formed = formed-of (sound-house (sound-place d o no_object alone S' goes) _) mastered;
          total = total-house (new_object d o no_object) (forfeit s c me k) ∙ omega (
            arith,
            total-place d o no_object alone S' goes,
            total-end-master s _ (sound-of G) closed k h z (descends-self s G.caps k h) master-k,
          );
        }

  pub keep-delete : Kept s (delete_cap_does s c me k).after
  unfolding done
  keep-delete = delete-by s c me k (λ r. Kept s r.after) keep-master keep-child

  -- ---- the ledger: the line found and all leading back to it end

  module _ (l : Ledger) (K : Linking s l) where
    link-child : Linking (deleted s c me k) (entry l c (K.num k) delete_cap)
    unfolding deleted entry
    link-child = link-end s _ (sound-of G) closed l K (λ j. leads_back l j (K.num k))
        (λ i g. leads-descends s l G K i k g h)

    pub link-delete : Linking (delete_cap_does s c me k).after (entry l c (K.num k) delete_cap)
    unfolding done to_house with_house end_object no_object
    link-delete = delete-by s c me k (λ r. Linking r.after (entry l c (K.num k) delete_cap))
        (λ z. link-place (deleted s c me k) (s.cap k).object no_object (alone z) (entry l c (K.num k) delete_cap)
        link-child (λ q. absurd (false≢true q)))
        (λ n. link-child)
