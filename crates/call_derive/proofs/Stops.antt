-- The run by what the code found in the cells: which of its refusals stops it, or what it stores.
use Prim.Native.Nat.{ℕ, ◌+◌, min}
use mathlib.Core.Path.{◌≡◌, refl, sym, ap, ◌∙◌}
use mathlib.Core.Logic.{◌≢◌}
use mathlib.Core.Bool.{Bool, true, false}
use mathlib.Core.List.{List, [], ◌∷◌}
use native.Mathlib.Omega.{arith}
use lib.Dec.{eqb}
use lib.ListN.{get_or, set}
use borrow.Author.Tests.{eq-eqb, ne_eqb}
use Rattle.rules.specs.Slots.{some}
use Rattle.rules.specs.Store.{Name, Password, Window, Cap}
use Rattle.rules.specs.Rights.{both}
use Rattle.rules.specs.Call.{hands_back}
use Rattle.rules.specs.Refusals.{◌when◌, first}
use Rattle.rules.specs.Calls.{moved}
use Rattle.layout.specs.Layout as Layout
use Rattle.layout.specs.Rows.{owner_of}
use Rattle.layout.specs.View.{view}
use Rattle.layout.proofs.Field.{row}
use Rattle.call_steps.specs.Request.{Reply}
use Rattle.call_steps.specs.Refuses.{Refuses}
use Rattle.call_steps.specs.Replies.{Gives, Replies}
use Rattle.call_steps.specs.Tests.{CapSlot, taken}
use Rattle.call_steps.specs.Run.{window_in}
use Rattle.call_steps.proofs.Replying.{replies-stopped, replies-done}
use Rattle.call_grow.specs.declared.cap.NewCap.{NewCap}
use Rattle.call_grow.specs.Made.{cap_of, free_cap, new_words, Makes}
use Rattle.call_derive.specs.Runs.{child_in, IsChild, derived_links, money_under, Adds, derive_stop, derived, derive_run}

-- ---- the child

pub child-cells : (l w : List ℕ) (k rights : ℕ) (range : Window) (drawn : Password) (last_day : ℕ) → CapSlot k
    → (v : Window) (q d : ℕ)
    → v ≡ moved range (window_in w k)
    → q ≡ both (get_or l (Layout.RIGHTS + k) 0) rights
    → d ≡ min last_day (get_or l (Layout.LAST_DAY + k) 0)
    → ◌≡◌ {A = Cap} (record {
      object = get_or l (Layout.OWNER + k) 0;
      parent = k;
      password = drawn;
      window = v;
      rights = q;
      last_day = d;
    }) (child_in l w k rights range drawn last_day)
unfolding child_in
child-cells l w k rights range drawn last_day at v q d ev eq ed =
    rw (row Layout.RIGHTS l k at, row Layout.LAST_DAY l k at, row Layout.OWNER l k at) (λ i. record {
      object = get_or l (Layout.OWNER + k) 0;
      parent = k;
      password = drawn;
      window = ev i;
      rights = eq i;
      last_day = ed i;
    })

-- ---- the child linked; n is the slot of the next sibling, r that of the record made

pub added : (l w : List ℕ) (k : ℕ) (x : Cap) (next limit m r n : ℕ) (l' w' : List ℕ) → CapSlot k
    → Makes l w x next m r l' w' → n ≡ next → m ≡ min limit (get_or w (Layout.MONEY + k) 0)
    → Adds l w k x next limit (set (set l' (Layout.FIRST_CHILD + k) r) (Layout.PREV_CAP + n) r) w'
unfolding derived_links
added l w k x next limit m r n l' w' at M e q = record {
  links = rw (M.links, M.slot, e);
  words = M.words ∙ ap (new_words w (free_cap l) x) (q ∙ ap (min limit) (sym (row Layout.MONEY w k at)));
}

-- ---- the call

-- the object of the capability in slot k
pub owner-is : (l : List ℕ) (k : ℕ) {o : ℕ} → CapSlot k → o ≡ get_or l (Layout.OWNER + k) 0 → o ≡ owner_of l k
owner-is l k at e = e ∙ sym (row Layout.OWNER l k at)

-- what the code goes by: o is the object, t whether p1 is taken in it
pub record Tested (b l w : List ℕ) (k o p1 : ℕ) (t : Bool) : Type 0 where
  pub slot : CapSlot k
  pub object : o ≡ get_or l (Layout.OWNER + k) 0
  pub test : t ≡ some 512 (taken (view b l w) o p1)

module _ {b l w : List ℕ} {k o p1 : ℕ} {t : Bool} (T : Tested b l w k o p1 t) where
  pub object-is : o ≡ owner_of l k
  object-is = owner-is l k T.slot T.object

  stop_is : {u v : Bool} → t ≡ u → eqb (free_cap l) 0 ≡ v → derive_stop b l w k p1 ≡ first (12 when u ∷ 13 when v ∷ [])
  unfolding derive_stop
  stop_is e f = rw (← object-is, ← T.test, e, f)

module _ {b l w : List ℕ} {k o : ℕ} {t : Bool} (rights : ℕ) (range : Window) (drawn : Password) (limit last_day : ℕ)
    (T : Tested b l w k o drawn.p1 t) {r : Reply} where
  pub stopped-12 : t ≡ true → Refuses 12 r → Replies r b l w (derive_run b l w k rights range drawn limit last_day)
  unfolding derive_run first ◌when◌
  stopped-12 e R = replies-stopped _ 12 (stop_is T e refl) (omega arith) R

  pub stopped-13 : t ≡ false → free_cap l ≡ 0 → Refuses 13 r → Replies r b l w (derive_run b l w k rights range drawn limit last_day)
  unfolding derive_run first ◌when◌
  stopped-13 e z R = replies-stopped _ 13 (stop_is T e (eq-eqb (free_cap l) 0 z)) (omega arith) R

  -- the record made is the child
  child-made : (n : Name) → n ≡ ((view b l w).object o).name → Gives (hands_back n drawn) r
      → (x : NewCap) → IsChild l w k rights range drawn last_day x → {l' w' : List ℕ} → Adds l w k (cap_of x) x.next limit l' w'
      → Replies r b l' w' (derived b l w k (child_in l w k rights range drawn last_day) limit)
  unfolding derived child_in
  child-made n q H x C A = record {
    none = H.none;
    answer = H.answer (view b l w) ∙ ap (λ m. (hands_back m drawn (view b l w)).answer) (q ∙ ap (λ i. ((view b l w).object i).name) (object-is T));
    bytes = refl;
    links = A.links ∙ (λ i. derived_links l (free_cap l) k (C.cap i) (C.next i));
    words = A.words ∙ (λ i. new_words w (free_cap l) (C.cap i) (money_under w k limit));
  }

  pub goes_on : t ≡ false → free_cap l ≢ 0 → (n : Name) → n ≡ ((view b l w).object o).name → Gives (hands_back n drawn) r
      → (x : NewCap) → IsChild l w k rights range drawn last_day x → {l' w' : List ℕ} → Adds l w k (cap_of x) x.next limit l' w'
      → Replies r b l' w' (derive_run b l w k rights range drawn limit last_day)
  unfolding derive_run first ◌when◌
  goes_on e nz n q H x C A =
      replies-done b l w (derived b l w k (child_in l w k rights range drawn last_day) limit)
      (stop_is T e (ne_eqb (free_cap l) 0 nz)) (child-made n q H x C A)
