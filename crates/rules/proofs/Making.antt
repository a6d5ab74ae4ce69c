-- make_obj: the third generic edit, with a new object, then the second, with its master.
use Prim.Native.Nat.{ℕ, ◌≤◌}
use mathlib.Core.Path.{◌≡◌, refl, sym, ap, ◌∙◌, subst}
use mathlib.Core.Logic.{◌≢◌}
use mathlib.Core.Bool.{Bool, true, false, ◌&&◌, ◌||◌, true≢false}
use native.Mathlib.Omega.{arith}
use lib.Dec.{eqb, leb, ltb}
use borrow.Author.Tests.{eqb-true, leb-true, ltb-false}
use Rattle.rules.specs.Slots.{at}
use Rattle.rules.specs.Store.{Object, Cap, State, no_lockword, no_object, object_named, blocks, objects_live}
use Rattle.rules.specs.Store.{caps_live, free_blocks, sums_in, money_in}
use Rattle.rules.specs.Valid.{Lives, IsMaster, Formed}
use Rattle.rules.specs.Rights.{make_obj}
use Rattle.rules.specs.Call.{Call, Choice, hands_back}
use Rattle.rules.specs.Refusals.{◌when◌, name_fits, arguments_fit}
use Rattle.rules.specs.Update.{with_cap, with_money}
use Rattle.rules.specs.Changes.{new_cap, new_object}
use Rattle.rules.specs.Calls.{make_obj_refuses, made_object, made_master, make_obj_does, refuses}
use Rattle.rules.specs.Ledger.{Ledger, add, set_lock, new_line, entry}
use Rattle.rules.specs.Demand.{Words, FreeObject, FreeCap}
use Rattle.rules.proofs.Tests.{all2, all3, none2, not-is-false, not-lives}
use Rattle.rules.proofs.Slots.{at-by, at_here}
use Rattle.rules.proofs.Sound.{HasMaster, Mastered, Sound, sound-of, formed-of, object-some, Kept}
use Rattle.rules.proofs.Link.{Linking}
use Rattle.rules.proofs.Adding.{add-master, Joins, joins-first, sound-add, total-add-master, link-add}
use Rattle.rules.proofs.Placing.{Goes, sound-place, total-place, link-place}
use Rattle.rules.proofs.Presenting.{not_named}
use Rattle.rules.proofs.Ready.{Ready}
use Rattle.rules.proofs.Locking.{lock-here, link-relock}

module _ (s : State) (G : Formed s) (c : Call) (me k : ℕ) (W : Words c) (r : Ready s c me k make_obj)
    (h : Choice) (A : FreeObject s h.object) (F : FreeCap s h.cap) where
  abbrev o : ℕ
  o = h.object

  abbrev i₀ : ℕ
  i₀ = h.cap

  abbrev x : Object
  x = made_object s c me k

  abbrev m : Cap
  m = made_master s c me k o

  -- ---- the object

  not_live : (s.object h.object).live ≡ false
  unfolding FreeObject
  not_live = A.2

  was-none : s.object h.object ≡ no_object
  was-none = G.objects.free o not_live

  alone : (i : ℕ) → Lives s.cap i → (s.cap i).object ≢ h.object
  alone i g e = true≢false (sym (G.caps.live i g).owned ∙ ap (λ z. (s.object z).live) e ∙ not_live)

  unnamed : (j : ℕ) → (s.object j).live ≡ true → (s.object j).name ≢ c.name
  unfolding refuses make_obj_refuses ◌when◌
  unnamed = not_named s c.name G.objects
      (eqb-true _ _ (not-is-false (eqb (object_named s c.name) 0) r.none.0))

  space : blocks c.size ≤ free_blocks s
  unfolding refuses make_obj_refuses ◌when◌
  space = ltb-false _ _ (none2 (leb 64 (objects_live s) || leb 512 (caps_live s)) (ltb (free_blocks s) (blocks c.size))
      r.none.1.0).1

  record Fitting : Type 0 where
    volume : c.name.volume ≤ 3
    serial : c.name.serial ≤ 65535
    size : c.size ≤ 8192
    rights : c.rights ≤ 8191

  fitting : Fitting
  unfolding arguments_fit name_fits
  fitting =
      let n : Bool = leb c.name.volume 3 && leb c.name.serial 65535 in
      let a = all2 (n && leb c.size 8192 && leb c.flag 1) (leb c.rights 8191) r.fits in
      let b = all3 n (leb c.size 8192) (leb c.flag 1) a.0 in
      let d = all2 (leb c.name.volume 3) (leb c.name.serial 65535) b.0 in
      record {
        volume = leb-true _ _ d.0;
        serial = leb-true _ _ d.1;
        size = leb-true _ _ b.1;
        rights = leb-true _ _ a.1;
      }

  goes : Goes s h.object (made_object s c me k) alone
  unfolding made_object FreeObject
  goes = record {
    some = A.0;
    low = A.1;
    fits = λ e. record {
      some = A.0;
      low = A.1;
      volume = fitting.volume;
      serial = fitting.serial;
      size = fitting.size;
    };
    free = λ e. absurd (true≢false e);
    unique = λ e. unnamed;
    room = omega (arith, space);
  }

  abbrev s' : State
  s' = new_object s h.object (made_object s c me k)

  S' : Sound (new_object s h.object (made_object s c me k))
  S' = sound-place s o x alone (sound-of G) goes

  -- the slot held nothing, so the total is the same
  total' : money_in (new_object s h.object (made_object s c me k)) ≡ money_in s
  unfolding no_object sums_in
  total' =
      let e : (s.object o).process ≡ false = ap (λ (y : Object). y.process) was-none in
      omega (arith, total-place s o x alone (sound-of G) goes, G.no-cash o e, ap sums_in (G.no-box o e))

  -- ---- its master

  free : ((new_object s h.object (made_object s c me k)).cap h.cap).object ≡ 0
  unfolding new_object FreeCap
  free = not-lives s i₀ F.2

  alive : (made_master s c me k h.object).object ≢ 0
  unfolding made_master FreeObject
  alive = omega (arith, A.0)

  joins : Joins s'.cap h.cap (made_master s c me k h.object) free alive s'.object
  unfolding new_object made_master made_object FreeCap
  joins = joins-first s.cap i₀ m free alive s'.object (record {
    some = F.0;
    low = F.1;
    p1 = W.drawn1;
    p2 = W.drawn2;
    rights = fitting.rights;
    ordered = omega arith;
    owned = ap (λ (y : Object). y.live) (at_here s.object o x);
  }) refl alone

  is-master : IsMaster h.object c.size (made_master s c me k h.object)
  unfolding made_master
  is-master = record { of = refl; parent = refl; start = refl; end = refl; last_day = refl }

  mastered : Mastered (at s.object h.object (made_object s c me k))
      (at s.cap h.cap (made_master s c me k h.object))
  unfolding new_object made_object
  mastered = at-by (λ j (y : Object). y.live ≡ true → HasMaster (at s.cap i₀ m) j y.size) s.object o x
      (λ e. (i₀, subst (IsMaster o c.size) (sym (at_here s.cap i₀ m)) is-master))
      (λ j n e. add-master s.cap i₀ m free alive (object-some G.objects j e) (G.master j e))

  pub keep-make : Kept s (make_obj_does s c me k h).after
  unfolding make_obj_does hands_back new_cap with_money with_cap new_object made_master
  keep-make = record {
    formed = formed-of (sound-add s' S' i₀ m 0 free alive joins (omega arith)) mastered;
    total = total-add-master s' S' i₀ m 0 free alive joins refl ∙ omega (arith, total');
  }

  -- ---- the ledger: the name's lockword is zeroed, and a line from none added

  pub link-make : (l : Ledger) (K : Linking s l)
      → Linking (make_obj_does s c me k h).after (entry l c (K.num k) make_obj)
  unfolding make_obj_does hands_back entry set_lock add new_object made_object made_master new_line
  link-make l K =
      let l' : Ledger = set_lock l c.name no_lockword in
      let K' : Linking s' l' = link-place s o x alone l' (link-relock s l c.name no_lockword K unnamed)
      (λ e. lock-here l c.name no_lockword) in
      link-add s' S' i₀ m 0 free alive joins l' K' (new_line l c (K.num k) c.name 0 0)
      (ap (λ (y : Object). y.name) (at_here s.object o x)) refl (sym K'.linked.none) (omega arith) refl
