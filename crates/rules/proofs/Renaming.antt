-- rename_obj: the first generic edit, with all capabilities of the object, then the second, with the new master.
use Prim.Native.Nat.{ℕ}
use mathlib.Core.Path.{◌≡◌, refl, sym, ap, ◌∙◌, subst}
use mathlib.Core.Logic.{◌≢◌}
use mathlib.Core.Bool.{true}
use native.Mathlib.Omega.{arith}
use lib.Dec.{eqb}
use borrow.Author.Tests.{eqb-true, eqb-false, eq-eqb, ne_eqb}
use Rattle.rules.specs.Slots.{at}
use Rattle.rules.specs.Store.{Name, same_name, Cap, State}
use Rattle.rules.specs.Valid.{Lives, IsMaster, Formed}
use Rattle.rules.specs.Rights.{rename_obj, presents}
use Rattle.rules.specs.Call.{Call, Choice, hands_back}
use Rattle.rules.specs.Refusals.{◌when◌}
use Rattle.rules.specs.Update.{with_cap, with_money}
use Rattle.rules.specs.Changes.{new_cap, end_where}
use Rattle.rules.specs.Calls.{rename_obj_refuses, emptied, new_master, rename_obj_does, refuses}
use Rattle.rules.specs.Ledger.{Ledger, balance, end_lines, new_line, entry}
use Rattle.rules.specs.Demand.{Words, FreeCap}
use Rattle.rules.proofs.Tests.{by-eq, bool_same, not-is-false, same-name, name-same, not-lives}
use Rattle.rules.proofs.Slots.{at_here}
use Rattle.rules.proofs.Sound.{Mastered, Sound, sound-of, formed-of, object-some, Kept}
use Rattle.rules.proofs.Link.{Linking, balance-money}
use Rattle.rules.proofs.Ending.{end_by, end-master, sound-end, total-end-master, link-end}
use Rattle.rules.proofs.Adding.{add-master, Joins, joins-first, sound-add, total-add-master, link-add}
use Rattle.rules.proofs.Ready.{Ready}

module _ (s : State) (G : Formed s) (c : Call) (me k : ℕ) (W : Words c) (r : Ready s c me k rename_obj)
    (h : Choice) (F : FreeCap (emptied s c me k) h.cap) where
  abbrev o : ℕ
  o = (s.cap k).object

  abbrev i₀ : ℕ
  i₀ = h.cap

  abbrev s' : State
  s' = emptied s c me k

  abbrev x : Cap
  x = new_master s c me k

  alive : Lives s.cap k
  unfolding presents
  alive = (r.shown refl).lives

  -- k is the object's master
  high : (s.cap k).parent ≡ 0
  unfolding refuses rename_obj_refuses ◌when◌
  high = eqb-true _ _ (not-is-false (eqb (s.cap k).parent 0) r.none.0)

  master-k : (i : ℕ) → Lives s.cap i → (s.cap i).object ≡ (s.cap k).object → (s.cap i).parent ≡ 0 → i ≡ k
  master-k i g e z = G.caps.masters i k g alive e z high

  is-master : IsMaster (s.cap k).object (s.object (s.cap k).object).size (s.cap k)
  is-master =
      let e = (G.caps.live k alive).owned in
      let m = G.master o e in
      subst (λ i. IsMaster o (s.object o).size (s.cap i))
      (master-k m.0 (λ z. alive (sym m.1.of ∙ z)) m.1.of m.1.parent) m.1

  -- ---- all end

  closed : (i : ℕ) → Lives s.cap i → (s.cap i).parent ≢ 0
      → eqb (s.cap (s.cap i).parent).object (s.cap k).object ≡ true
      → eqb (s.cap i).object (s.cap k).object ≡ true
  closed i g n e = eq-eqb _ _ ((G.caps.within i g n).object ∙ eqb-true _ _ e)

  S' : Sound (emptied s c me k)
  unfolding emptied
  S' = sound-end s _ (sound-of G) closed

  gone : (j : ℕ) → Lives (emptied s c me k).cap j → ((emptied s c me k).cap j).object ≢ (s.cap k).object
  unfolding emptied
  gone = end_by s _ (λ j y. y.object ≢ (s.cap k).object) (λ j g e. eqb-false _ _ e)

  -- ---- the new master

  free : ((emptied s c me k).cap h.cap).object ≡ 0
  unfolding FreeCap
  free = not-lives s' i₀ F.2

  new-alive : (new_master s c me k).object ≢ 0
  unfolding new_master
  new-alive = alive

  joins : Joins s'.cap h.cap (new_master s c me k) free new-alive s'.object
  unfolding new_master FreeCap emptied end_where with_money with_cap
  joins =
      let w = G.caps.live k alive in
      joins-first s'.cap i₀ x free new-alive s'.object (record {
        some = F.0;
        low = F.1;
        p1 = W.drawn1;
        p2 = W.drawn2;
        rights = w.rights;
        ordered = w.ordered;
        owned = w.owned;
      }) refl gone

  new-master : IsMaster (s.cap k).object (s.object (s.cap k).object).size (new_master s c me k)
  unfolding new_master
  new-master = let m = is-master in record { of = refl; parent = refl; start = m.start; end = m.end; last_day = refl }

  mastered : Mastered s.object (at (emptied s c me k).cap h.cap (new_master s c me k))
  unfolding emptied
  mastered j e = by-eq j o
      (λ q. (
        i₀,
        subst (λ z. IsMaster z (s.object z).size (at s'.cap i₀ x i₀)) (sym q)
            (subst (IsMaster o (s.object o).size) (sym (at_here s'.cap i₀ x)) new-master),
      ))
      (λ n.
      let m = G.master j e in
      add-master s'.cap i₀ x free new-alive (object-some G.objects j e)
      (end-master s _ m (ne_eqb _ _ (λ q. n (sym m.1.of ∙ q)))))

  pub keep-rename : Kept s (rename_obj_does s c me k h).after
  unfolding rename_obj_does hands_back new_cap with_money with_cap new_master emptied end_where
  keep-rename = record {
    formed = formed-of (sound-add s' S' i₀ x (s.money k) free new-alive joins (G.money k)) mastered;
    total = total-add-master s' S' i₀ x (s.money k) free new-alive joins refl
        ∙ total-end-master s _ (sound-of G) closed k alive high (eq-eqb o o refl)
        (λ j g e. master-k j g (eqb-true _ _ e));
  }

  -- ---- the ledger: the object's lines end, and one from none is added

  module _ (l : Ledger) (K : Linking s l) where
    abbrev n : Name
    n = (l.line (K.num k)).name

    -- a line of the object's name is the line of a capability of the object
    agree : (i : ℕ) → Lives s.cap i
        → same_name (l.line (K.num i)).name (l.line (K.num k)).name ≡ eqb (s.cap i).object (s.cap k).object
    agree i g =
        let a = K.linked.fits i g in
        let b = K.linked.fits k alive in
        bool_same (same_name (l.line (K.num i)).name n) (eqb (s.cap i).object o)
        (λ e. eq-eqb _ _ (G.objects.names (s.cap i).object o
        (G.caps.live i g).owned (G.caps.live k alive).owned
        (a.name ∙ same-name (l.line (K.num i)).name n e ∙ sym b.name)))
        (λ e. name-same (l.line (K.num i)).name n
        (sym a.name ∙ ap (λ z. (s.object z).name) (eqb-true _ _ e) ∙ b.name))

    abbrev l' : Ledger
    l' = end_lines l (λ j. same_name (l.line j).name (l.line (K.num k)).name)

    K' : Linking (emptied s c me k) (end_lines l (λ j. same_name (l.line j).name (l.line (K.num k)).name))
    unfolding emptied
    K' = link-end s _ (sound-of G) closed l K (λ j. same_name (l.line j).name n) agree

    pub link-rename : Linking (rename_obj_does s c me k h).after (entry l c (K.num k) rename_obj)
    unfolding rename_obj_does hands_back entry new_line new_master emptied end_where with_money with_cap end_lines
    link-rename =
        let f = K.linked.fits k alive in
        link-add s' S' i₀ x (s.money k) free new-alive joins l' K' (new_line l c (K.num k) n 0 (balance l (K.num k)))
        f.name refl (sym K'.linked.none) (omega arith) (balance-money s l G K k alive)
