-- The capability presented: its object's slot and its p1 find it, since p1 is unique in an object, and p2 decides.
use Prim.Native.Nat.{ℕ, ◌+◌}
use mathlib.Core.Path.{◌≡◌, sym, ap, ap₂, ◌∙◌, subst}
use mathlib.Core.Logic.{◌≢◌}
use mathlib.Core.Bool.{true}
use mathlib.Core.List.{List}
use lib.Dec.{eqb, ltb}
use lib.ListN.{get_or}
use borrow.Author.Tests.{eq-eqb, eqb-true}
use Rattle.rules.specs.Slots.{find}
use Rattle.rules.specs.Store.{Cap, Password, State, object_named}
use Rattle.rules.specs.Valid.{Lives, Formed}
use Rattle.rules.specs.Call.{Capability}
use Rattle.rules.specs.Password.{unlock, presented}
use Rattle.rules.specs.Refusals.{expired}
use Rattle.rules.proofs.Tests.{by-eq, both_true, all2}
use Rattle.rules.proofs.Slots.{find-finds, find-some}
use Rattle.rules.proofs.Presenting.{named, found-live, not_named, shown, presents}
use Rattle.layout.specs.Layout as Layout
use Rattle.layout.specs.Rows.{owner_of, master_of}
use Rattle.layout.specs.View.{view}
use Rattle.layout.specs.WellFormed.{Plain}
use Rattle.layout.proofs.Field.{field_in, field-low, field-high}
use Rattle.layout.proofs.Shown.{object-lives, lock-here, cap-here, cap-object, cap-lives, cap-shown}
use Rattle.call_steps.specs.Run.{Process, Held, Target}
use Rattle.call_steps.specs.Tests.{taken}
use Rattle.call_steps.proofs.Process.{is-process}

-- ---- the search

-- slot r is slot k where k's cell has this p2, otherwise 0
pub record ByP2 (w : List ℕ) (k p2 r : ℕ) : Type 0 where
  pub here : get_or w (Layout.P2 + k) 0 ≡ p2 → k ≡ r
  pub else : get_or w (Layout.P2 + k) 0 ≢ p2 → 0 ≡ r

module _ (b l w : List ℕ) (W : Plain b l w) (me : ℕ) (x : Capability) where
  abbrev s : State
  s = view b l w

  abbrev G : Formed s
  G = W.valid.formed

  -- no object has the name
  pub present-none : object_named s x.name ≡ 0 → presented s me x ≡ 0
  present-none e = by-eq (presented s me x) 0 (λ z. z) (λ h.
      let k = shown s me x h in
      absurd (not_named s x.name G.objects e _ (G.caps.live _ k.lives).owned k.name))

  -- o is the object of the name, p the password as it is looked up, k the slot of o's capability with its p1
  module _ (o : ℕ) (e : o ≡ object_named s x.name) (some : o ≢ 0)
      (p : Password) (q : p ≡ unlock x.password (s.lock me))
      (k : ℕ) (f : k ≡ find 512 (taken s o p.p1)) where
    name-is : (s.object o).name ≡ x.name
    name-is = rw e (named s x.name (λ z. some (e ∙ z)))

    -- slot k, where one is found
    has-p1 : k ≢ 0 → ((s.cap k).object ≡ o) × ((s.cap k).password.p1 ≡ p.p1)
    unfolding taken
    has-p1 nz =
        let g : taken s o p.p1 k ≡ true = rw f (find-finds 512 (taken s o p.p1) (λ z. nz (f ∙ z))).0 in
        let h = all2 (eqb (s.cap k).object o) (eqb (s.cap k).password.p1 p.p1) g in
        (eqb-true _ _ h.0, eqb-true _ _ h.1)

    lives : k ≢ 0 → Lives s.cap k
    lives nz z = some (sym (has-p1 nz).0 ∙ z)

    cell : k ≢ 0 → (s.cap k).password.p2 ≡ get_or w (Layout.P2 + k) 0
    cell nz =
        let c = G.caps.live k (lives nz) in
        ap (λ (r : Cap). r.password.p2) (cap-here b l w k (cap-lives b l w k (lives nz)))
        ∙ field_in 512 Layout.P2 w k c.some c.low

    -- a p1 is unique in its object: what is presented stands in slot k
    by-p1 : presented s me x ≢ 0 → presented s me x ≡ k
    unfolding taken
    by-p1 nz =
        let j : ℕ = presented s me x in
        let S = shown s me x nz in
        let c = G.caps.live j S.lives in
        let alive : (s.object o).live ≡ true = rw e (found-live s x.name (λ z. some (e ∙ z))) in
        let owner : (s.cap j).object ≡ o =
        G.objects.names (s.cap j).object o c.owned alive (S.name ∙ sym name-is) in
        let p1 : (s.cap j).password.p1 ≡ p.p1 = ap (λ (r : Password). r.p1) (S.password ∙ sym q) in
        let t = both_true (eqb (s.cap j).object o) (eqb (s.cap j).password.p1 p.p1)
        (eq-eqb _ _ owner) (eq-eqb _ _ p1) in
        let found : k ≢ 0 = λ z. find-some 512 (taken s o p.p1) j c.some c.low t (sym f ∙ z) in
        let h = has-p1 found in
        G.caps.passwords j k S.lives (lives found) (owner ∙ sym h.0) (p1 ∙ sym h.1)

    -- and p2 decides; where nothing has the p1 the answer is 0 both ways
    pub present-by : ByP2 w k p.p2 (presented s me x)
    present-by = record {
      here = λ h. by-eq k 0
          (λ z. z ∙ sym (by-eq (presented s me x) 0 (λ y. y) (λ nz. absurd (nz (by-p1 nz ∙ z)))))
          (λ nz.
          let g = has-p1 nz in
          let c = G.caps.live k (lives nz) in
          let same : (s.cap k).password ≡ p = ap₂ (λ a d. record { p1 = a; p2 = d }) g.1 (cell nz ∙ h) in
          sym (by-p1 (presents s me x k c.some c.low (record {
            lives = lives nz;
            name = ap (λ i. (s.object i).name) g.0 ∙ name-is;
            password = same ∙ q;
          }))));
      else = λ h. sym (by-eq (presented s me x) 0 (λ z. z) (λ nz.
          let at = by-p1 nz in
          absurd (h (sym (cell (λ z. nz (at ∙ z))) ∙ ap (λ i. (s.cap i).password.p2) (sym at)
          ∙ ap (λ (r : Password). r.p2) ((shown s me x nz).password ∙ sym q)))));
    }

-- ---- what is presented is held

pub target-of : {b l w : List ℕ} {k : ℕ} → Plain b l w → Held l k → Target l k
target-of {b} {l} {w} {k} f h =
    let o : ℕ = owner_of l k in
    let alive : master_of l o ≢ 0 = object-lives b l w o
    (ap (λ i. ((view b l w).object i).live) (sym (cap-object b l w k))
    ∙ (f.valid.formed.caps.live k (cap-shown b l w k h.live)).owned) in
    record {
      held = h;
      slot = record { low = field-low 64 Layout.MASTER l o alive; high = field-high 64 Layout.MASTER l o alive };
      live = alive;
    }

pub presented-held : (b l w : List ℕ) (me : ℕ) (x : Capability)
    → presented (view b l w) me x ≢ 0 → Held l (presented (view b l w) me x)
presented-held b l w me x h =
    let k : ℕ = presented (view b l w) me x in
    let alive : owner_of l k ≢ 0 = cap-lives b l w k (shown (view b l w) me x h).lives in
    record {
      low = field-low 512 Layout.OWNER l k alive;
      high = field-high 512 Layout.OWNER l k alive;
      live = alive;
    }

-- where k is the slot found
pub found-held : (b l w : List ℕ) (me : ℕ) (x : Capability) (k : ℕ) → k ≡ presented (view b l w) me x → k ≢ 0 → Held l k
found-held b l w me x k e nz = subst (Held l) (sym e) (presented-held b l w me x (λ z. nz (e ∙ z)))

-- ---- the lockword of a process, the rights and the last day of a capability, and whether it is expired

pub lock-is : (b l w : List ℕ) (me : ℕ) → Process b l me
    → (view b l w).lock me
    ≡ record { first = get_or w (Layout.LOCK1 + me) 0; second = get_or w (Layout.LOCK2 + me) 0 }
lock-is b l w me P =
    rw (
      lock-here b l w me (is-process P),
      field_in 64 Layout.LOCK1 w me P.low P.high,
      field_in 64 Layout.LOCK2 w me P.low P.high,
    )

pub rights-is : (b l w : List ℕ) (k : ℕ) → Held l k → ((view b l w).cap k).rights ≡ get_or l (Layout.RIGHTS + k) 0
rights-is b l w k H = rw (cap-here b l w k H.live, field_in 512 Layout.RIGHTS l k H.low H.high)

pub last-day-is : (b l w : List ℕ) (k : ℕ) → Held l k → ((view b l w).cap k).last_day ≡ get_or l (Layout.LAST_DAY + k) 0
last-day-is b l w k H = rw (cap-here b l w k H.live, field_in 512 Layout.LAST_DAY l k H.low H.high)

pub expired-is : (b l w : List ℕ) (k : ℕ) → Held l k
    → expired (view b l w) k ≡ ltb (get_or l (Layout.LAST_DAY + k) 0) (get_or l Layout.DAY 0)
unfolding expired view
expired-is b l w k H = ap (λ d. ltb d (get_or l Layout.DAY 0)) (last-day-is b l w k H)
