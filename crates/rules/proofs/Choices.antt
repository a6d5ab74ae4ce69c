-- Where a call is done there is something free to take: 13 is not met, and rename_obj frees its own master's slot.
use Prim.Native.Nat.{ℕ}
use mathlib.Core.Path.{◌≡◌, refl, sym, ap, ◌∙◌, subst}
use mathlib.Core.Bool.{Bool, true, false, not, ◌||◌, true≢false}
use native.Mathlib.Omega.{arith}
use lib.Dec.{eqb, leb, ltb}
use borrow.Author.Tests.{leb-false, eq-eqb}
use Rattle.rules.specs.Limit as Limit
use Rattle.rules.specs.Slots.{find}
use Rattle.rules.specs.Store.{Cap, State, no_cap, cap_lives, blocks, objects_live, caps_live, free_blocks}
use Rattle.rules.specs.Valid.{Lives, Caps, Formed}
use Rattle.rules.specs.Rights.{Op, make_obj, derive_cap, rename_obj, op, presents, day_number}
use Rattle.rules.specs.Call.{Call, Choice}
use Rattle.rules.specs.Refusals.{◌when◌, caller}
use Rattle.rules.specs.Calls.{make_obj_refuses, derive_cap_refuses, emptied, refuses}
use Rattle.rules.specs.Rule.{paid, rule, is_done}
use Rattle.rules.specs.Demand.{FreeObject, FreeCap, Open}
use Rattle.rules.specs.Script.{freed, last_free}
use Rattle.rules.proofs.Tests.{by-eq, by_bool, refuted, none2, not-is-true, lives, not-lives}
use Rattle.rules.proofs.Slots.{find-finds, find-some, free-slot}
use Rattle.rules.proofs.Ending.{end-cap, was}
use Rattle.rules.proofs.Ready.{Ready, slot_of, ready}
use Rattle.rules.proofs.Outcomes.{host-open}
use Rattle.rules.proofs.Answers.{done-by}
use Rattle.rules.proofs.Done.{Takes}
use Rattle.rules.proofs.Steps.{takes-open, keep-paid}

module _ (s : State) (c : Call) (me k : ℕ) where
  some-object : (i : ℕ) × (leb 64 (objects_live s) ≡ false → FreeObject s i)
  unfolding objects_live FreeObject
  some-object = by_bool (leb 64 (objects_live s))
      (λ e. (0, λ q. absurd (true≢false (sym e ∙ q))))
      (λ e. let f = free-slot 64 (λ o. (s.object o).live) (leb-false _ _ e) in (f.0, λ q. (f.1, f.2, f.3)))

  abbrev of-object : ℕ → Bool
  of-object i = eqb (s.cap i).object (s.cap k).object

  -- what ends is free, and what was free stays so
  emptied-free : (i : ℕ) → (s.cap i).object ≡ (s.cap k).object → cap_lives (emptied s c me k) i ≡ false
  unfolding cap_lives emptied no_cap
  emptied-free i e = ap (λ (x : Cap). not (eqb x.object 0)) (end-cap s of-object i (eq-eqb _ _ e))

  still-free : (i : ℕ) → cap_lives s i ≡ false → cap_lives (emptied s c me k) i ≡ false
  unfolding emptied
  still-free i e = refuted (cap_lives (emptied s c me k) i) (λ q.
      was s of-object i (lives (emptied s c me k) i q) (not-lives s i e))

  some-cap : Caps s.object s.cap → (i : ℕ) × (leb 512 (caps_live s) ≡ false → FreeCap s i)
      × (Lives s.cap k → FreeCap (emptied s c me k) i)
  unfolding caps_live FreeCap
  some-cap C = by_bool (leb 512 (caps_live s))
      (λ e. (
        k,
        λ q. absurd (true≢false (sym e ∙ q)),
        λ h. let w = C.live k h in (w.some, w.low, emptied-free k refl),
      ))
      (λ e.
      let f = free-slot 512 (λ i. cap_lives s i) (leb-false _ _ e) in
      (f.0, λ q. (f.1, f.2, f.3), λ h. (f.1, f.2, still-free f.0 f.3)))

  -- 13 is not met
  room-made : Ready s c me k make_obj → (leb 64 (objects_live s) ≡ false) × (leb 512 (caps_live s) ≡ false)
  unfolding refuses make_obj_refuses ◌when◌
  room-made r =
      let a : Bool = leb 64 (objects_live s) in
      let b : Bool = leb 512 (caps_live s) in
      none2 a b (none2 (a || b) (ltb (free_blocks s) (blocks c.size)) r.none.1.0).0

  room-derived : Ready s c me k derive_cap → leb 512 (caps_live s) ≡ false
  unfolding refuses derive_cap_refuses ◌when◌
  room-derived r = r.none.1.0

  shown-renamed : Ready s c me k rename_obj → Lives s.cap k
  unfolding presents
  shown-renamed r = (r.shown refl).lives

  takes : Caps s.object s.cap → (o : Op) → Ready s c me k o → (g : Choice) × Takes s c me k g o
  takes C o r =
      let i = some-object in
      let j = some-cap C in (
        record { object = i.0; cap = j.0 },
        record {
          object = λ e. i.1 (room-made (subst (Ready s c me k) e r)).0;
          made = λ e. j.1 (room-made (subst (Ready s c me k) e r)).1;
          derived = λ e. j.1 (room-derived (subst (Ready s c me k) e r));
          renamed = λ e. j.2 (shown-renamed (subst (Ready s c me k) e r));
        },
      )

pub choose : (s : State) (c : Call) (h : Choice) → Formed s → is_done (rule s c h) ≡ true → (g : Choice) × Open s c g
choose s c h G = by-eq c.number day_number
    (λ z _. (h, host-open s c h z))
    (λ p. done-by s c h (λ r. (g : Choice) × Open s c g) p (λ e f.
    let r = takes (paid s c) c (caller s c) (slot_of s c) (keep-paid s G c e).formed.caps (op c.number)
    (ready s c G.objects e f) in
    (r.0, takes-open s c r.0 r.1)))

-- ---- the last free slots are such

object-found : (s : State) (o : ℕ) → FreeObject s o → FreeObject s (find Limit.objects (λ i. not (s.object i).live))
unfolding FreeObject
object-found s o F =
    let t : ℕ → Bool = λ i. not (s.object i).live in
    let n = find-some Limit.objects t o F.0 F.1 (ap not F.2) in
    let r = find-finds Limit.objects t n in
    (omega arith, r.1, not-is-true (s.object (find Limit.objects t)).live r.0)

cap-found : (s : State) (i : ℕ) → FreeCap s i → FreeCap s (find Limit.caps (λ j. not (cap_lives s j)))
unfolding FreeCap
cap-found s i F =
    let t : ℕ → Bool = λ j. not (cap_lives s j) in
    let n = find-some Limit.caps t i F.0 F.1 (ap not F.2) in
    let r = find-finds Limit.caps t n in
    (omega arith, r.1, not-is-true (cap_lives s (find Limit.caps t)) r.0)

-- in the store in which the call takes them
module _ (s : State) (c : Call) (o : Op) (x : State) (e : op c.number ≡ o) (f : freed s c o ≡ x) where
  object-last : (i : ℕ) → FreeObject x i → FreeObject x (last_free s c).object
  unfolding last_free
  object-last i F = subst (λ (y : State). FreeObject x (find Limit.objects (λ j. not (y.object j).live)))
      (sym (ap (freed s c) e ∙ f)) (object-found x i F)

  cap-last : (i : ℕ) → FreeCap x i → FreeCap x (last_free s c).cap
  unfolding last_free
  cap-last i F = subst (λ (y : State). FreeCap x (find Limit.caps (λ j. not (cap_lives y j))))
      (sym (ap (freed s c) e ∙ f)) (cap-found x i F)

pub last-open : (s : State) (c : Call) → Formed s → is_done (rule s c (last_free s c)) ≡ true → Open s c (last_free s c)
unfolding freed
last-open s c G d =
    let g = choose s c (last_free s c) G d in
    record {
      object = λ e. object-last s c make_obj s e refl g.0.object (g.1.object e);
      made = λ e. cap-last s c make_obj s e refl g.0.cap (g.1.made e);
      derived = λ e. cap-last s c derive_cap s e refl g.0.cap (g.1.derived e);
      renamed = λ e. cap-last s c rename_obj _ e refl g.0.cap (g.1.renamed e);
    }
