-- derive_cap's run is what the rules give of its own part: 01, "derive_cap" of "What each call refuses, in order"; and
-- what its code asks follows from well-formedness.
use Prim.Native.Nat.{ℕ, ◌≤◌, min}
use mathlib.Core.Path.{◌≡◌, refl, sym, ap, ◌∙◌}
use mathlib.Core.Logic.{◌≢◌}
use mathlib.Core.List.{List}
use native.Mathlib.Omega.{arith}
use borrow.Author.Tests.{eq-eqb}
use Rattle.rules.specs.Limit as Limit
use Rattle.rules.specs.Slots.{some}
use Rattle.rules.specs.Store.{Cap, State}
use Rattle.rules.specs.Rights.{derive_cap, op, asked}
use Rattle.rules.specs.Call.{Call, Choice, hands_back}
use Rattle.rules.specs.Refusals.{◌when◌, first}
use Rattle.rules.specs.Changes.{new_cap}
use Rattle.rules.specs.Calls.{child, derive_cap_refuses, derive_cap_does, refuses, does}
use Rattle.rules.specs.Demand.{FreeCap, Open}
use Rattle.rules.proofs.Tests.{by_bool, by-eq}
use Rattle.layout.specs.Rows.{owner_of, first_child_of}
use Rattle.layout.specs.View.{view}
use Rattle.layout.specs.Shape.{Shape}
use Rattle.layout.specs.WellFormed.{WellFormed}
use Rattle.layout.proofs.Shown.{cap-object, cap-here, money-here}
use Rattle.layout.proofs.Frame.{state-is, house-same, day-same, object-same, bytes_same, lock-same, cash-same, marks-same}
use Rattle.layout.proofs.Frame.{box-same, cap-same, money-same}
use Rattle.layout.proofs.Kept.{cells-kept}
use Rattle.layout.proofs.Shaped.{shaped}
use Rattle.layout.proofs.FreeCaps.{FirstFree, first-free, caps-full, first-open}
use Rattle.call_steps.specs.Run.{Held, Meets, outcome}
use Rattle.call_steps.specs.Tests.{taken}
use Rattle.call_steps.proofs.Meeting.{Takes, meets-taken}
use Rattle.call_steps.proofs.Replying.{hands-back-is}
use Rattle.call_steps.proofs.Sharing.{p1-taken-is}
use Rattle.call_grow.specs.Made.{free_cap, new_words}
use Rattle.call_grow.proofs.Making.{made-words}
use Rattle.call_grow.proofs.Showing.{new-shows}
use Rattle.call_derive.specs.Runs.{child_in, derived_links, money_under, derive_stop, derived, derive_run, DeriveAsks}
use Rattle.call_derive.proofs.Linked.{Relinked}
use Rattle.call_derive.proofs.Shapes.{child-high, made, linked, derived-shape}

-- the two links that name the child show nowhere
relinked-shows : (b w : List ℕ) {l m : List ℕ} → Relinked l m → view b m w ≡ view b l w
relinked-shows b w {l} {m} R = state-is (view b m w) (view b l w)
    (house-same b l w b m w refl)
    (day-same b l w b m w R.day-same)
    (object-same b l w b m w R.master-same refl R.serial-same R.size_same refl)
    (bytes_same b l w b m w R.master-same R.size_same R.first-block-same R.next-block-same refl)
    (lock-same b l w b m w R.master-same refl refl refl)
    (cash-same b l w b m w R.master-same refl refl)
    (marks-same b l w b m w R.master-same refl refl refl refl)
    (box-same b l w b m w R.master-same refl refl refl refl refl)
    (cap-same b l w b m w R.owner-same R.parent-same refl refl refl refl R.rights-same R.last-day-same)
    (money-same b l w b m w R.owner-same refl)

-- a call that is derive_cap takes the capability's slot alone
open-derived : (s : State) (c : Call) (h : Choice) → op c.number ≡ derive_cap → FreeCap s h.cap → Open s c h
unfolding asked
open-derived s c h e F = record {
  object = λ q. absurd (omega (arith, ap asked (sym e ∙ q)));
  made = λ q. absurd (omega (arith, ap asked (sym e ∙ q)));
  derived = λ _. F;
  renamed = λ q. absurd (omega (arith, ap asked (sym e ∙ q)));
}

module _ {b l w : List ℕ} (f : WellFormed b l w) (c : Call) (me k : ℕ) (h : Held l k) where
  abbrev s : State
  s = view b l w

  abbrev i : ℕ
  i = free_cap l

  abbrev x : Cap
  x = child_in l w k c.rights c.range c.drawn c.last_day

  abbrev m : List ℕ
  m = derived_links l i k x (first_child_of l k)

  abbrev v : ℕ
  v = money_under w k c.limit

  abbrev taking : Choice
  taking = record { object = 0; cap = i }

  -- ---- the refusals

  stop_is : derive_stop b l w k c.drawn.p1 ≡ first (refuses s c me k derive_cap)
  unfolding derive_stop refuses derive_cap_refuses
  stop_is = rw (p1-taken-is s c me k, cap-object b l w k, ← caps-full b l w f.shape.caps)

  some-free : derive_stop b l w k c.drawn.p1 ≡ 0 → i ≢ 0
  unfolding derive_stop first ◌when◌
  some-free z e = by_bool (some 512 (taken s (owner_of l k) c.drawn.p1))
      (λ t. let q : 12 ≡ 0 = rw t at z in omega (arith, q))
      (λ t. let q : 13 ≡ 0 = rw (t, eq-eqb i 0 e) at z in omega (arith, q))

  -- ---- what it does

  child-is : child s c me k ≡ x
  unfolding child child_in
  child-is = rw (cap-object b l w k, cap-here b l w k h.live)

  module _ (nz : i ≢ 0) where
    F : FirstFree l f.shape.caps i
    F = first-free l f.shape.caps nz

    object-is : x.object ≡ owner_of l k
    unfolding child_in
    object-is = refl

    parent_is : x.parent ≡ k
    unfolding child_in
    parent_is = refl

    shows : view b m (new_words w i x v) ≡ new_cap s i x v
    shows = relinked-shows b (new_words w i x v)
        (linked l f.shape k x f.sized.links h.live nz object-is parent_is)
        ∙ new-shows b l w i x (first_child_of l k) v f.sized.links f.sized.words F.low F.high
        (λ z. h.live (sym object-is ∙ z))

    rules-is : does s c me k taking derive_cap ≡ outcome (derived b l w k x c.limit)
    unfolding does derive_cap_does derived child_in
    rules-is =
        hands-back-is (s.object (s.cap k).object).name c.drawn (new_cap s i (child s c me k) (min c.limit (s.money k))) s
        ∙ (λ t. record {
          answer = (hands_back (s.object (cap-object b l w k t)).name c.drawn s).answer;
          after = new_cap s i (child-is t) (min c.limit (money-here b l w k h.live t));
        })
        ∙ ap (λ r. record { answer = (hands_back (s.object (owner_of l k)).name c.drawn s).answer; after = r }) (sym shows)

    takes : op c.number ≡ derive_cap → Takes s c me k derive_cap taking (derived b l w k x c.limit)
    unfolding derived FreeCap
    takes e =
        let M = made l f.shape k x f.sized.links h.live nz object-is parent_is in
        let R = linked l f.shape k x f.sized.links h.live nz object-is parent_is in
        let W = made-words w i x v f.sized.words F.low F.high in
        record {
          free = open-derived s c taking e (F.low, F.high, first-open b l w f.shape.caps F);
          rules = rules-is;
          sized = record {
            bytes = f.sized.bytes;
            links = R.long ∙ M.long ∙ f.sized.links;
            words = W.long ∙ f.sized.words;
          };
          cells = cells-kept b l b m (R.master-same ∙ M.master-same) refl refl refl refl refl refl f.cells;
          links = derived-shape l f.shape k x f.sized.links h.live nz object-is parent_is;
        }

  pub derive-meets : op c.number ≡ derive_cap
      → Meets s c me k derive_cap (derive_run b l w k c.rights c.range c.drawn c.limit c.last_day)
  unfolding derive_run
  derive-meets e = meets-taken b l w c me k derive_cap taking f (derive_stop b l w k c.drawn.p1) (derived b l w k x c.limit)
      stop_is (λ z. takes (some-free z) e)

-- ---- what the code asks

free-high : (l : List ℕ) → Shape l → free_cap l ≤ 512
free-high l s = by-eq (free_cap l) 0 (λ z. omega (arith, z)) (λ nz. (first-free l s.caps nz).high)

pub derive-asks : {b l w : List ℕ} {k rights last_day : ℕ} → WellFormed b l w → Held l k → rights ≤ Limit.rights
    → last_day ≤ Limit.day → DeriveAsks b l w k rights last_day
derive-asks {b} {l} {w} {k} f h r d =
    let S = (shaped l f.shape).cap k h.live in
    record {
      sized = f.sized;
      slot = record { low = h.low; high = h.high };
      object = record { low = S.owner-low; high = S.owner-high };
      live = S.owner-lives;
      child-high = child-high l f.shape.caps k h.live S;
      free-high = free-high l f.shape;
      rights-fit = r;
      day-fits = d;
    }
