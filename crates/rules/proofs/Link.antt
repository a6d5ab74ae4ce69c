-- The invariant that ties the store to its ledger: each living capability has its line, each living line its
-- capability.
use Prim.Native.Nat.{ℕ, ◌+◌, ◌≤◌, ◌<◌}
use mathlib.Core.Path.{◌≡◌, sym, ap, ◌∙◌, subst}
use mathlib.Core.Logic.{◌≢◌}
use mathlib.Core.Bool.{true}
use native.Mathlib.Omega.{arith}
use Rattle.rules.specs.Slots.{mem}
use Rattle.rules.specs.Store.{Name, Password, Lockword, Object, Cap, State, path, descends}
use Rattle.rules.specs.Valid.{Lives, Caps, Formed}
use Rattle.rules.specs.Ledger.{Ledger, leads_back, summed, balance}
use Rattle.rules.proofs.Tests.{bool_same}
use Rattle.rules.proofs.Climbs.{OneOf, mem-one, one-mem, one_map, map-one, climbs-same, climbs-map}
use Rattle.rules.proofs.Forest.{path-climbs, path-lives}
use Rattle.rules.proofs.Lines.{Lines, lines_of, climb_of, line-climbs}

-- ---- the invariant

-- capability x matches line k: living, of one name, p1 and p2
pub record Fits (object : ℕ → Object) (b : Lines) (x : Cap) (k : ℕ) : Type 0 where
  pub some : 1 ≤ k
  pub low : k ≤ b.count
  pub living : b.living k ≡ true
  pub name : (object x.object).name ≡ (b.line k).name
  pub password : x.password ≡ (b.line k).password

-- num i is the line of the capability at slot i, slot k the capability of line k, and parents go with `from`
pub record Linked (object : ℕ → Object) (cap : ℕ → Cap) (b : Lines) (num slot : ℕ → ℕ) : Type 0 where
  pub none : num 0 ≡ 0
  pub fits : (i : ℕ) → Lives cap i → Fits object b (cap i) (num i)
  pub back : (k : ℕ) → 1 ≤ k → k ≤ b.count → b.living k ≡ true → Lives cap (slot k) × (num (slot k) ≡ k)
  pub above : (i : ℕ) → Lives cap i → (b.line (num i)).from ≡ num (cap i).parent
  pub later : (k : ℕ) → 1 ≤ k → k ≤ b.count → (b.line k).from < k

-- the purse equation of each living capability's line
abbrev pub Purses : (ℕ → Cap) → (ℕ → ℕ) → Ledger → (ℕ → ℕ) → Type 0
Purses cap money l num = (i : ℕ) → Lives cap i
    → (l.line (num i)).first + summed l l.paid_in (num i) ≡ money i + summed l l.drawn (num i)

-- a living object's lockword is the one that the ledger keeps for its name
abbrev pub Locked : (ℕ → Object) → (ℕ → Lockword) → (Name → Lockword) → Type 0
Locked object lock kept = (o : ℕ) → (object o).live ≡ true → kept (object o).name ≡ lock o

pub record Link (object : ℕ → Object) (cap : ℕ → Cap) (money : ℕ → ℕ) (lock : ℕ → Lockword) (l : Ledger) : Type 0 where
  pub num : ℕ → ℕ
  pub slot : ℕ → ℕ
  pub linked : Linked object cap (lines_of l) num slot
  pub purse : Purses cap money l num
  pub locked : Locked object lock l.lock

-- of a store and a ledger: a call that leaves these four parts alone leaves this as it stands
abbrev pub Linking : State → Ledger → Type 0
Linking s l = Link s.object s.cap s.money s.lock l

-- ---- what follows

module _ (s : State) (l : Ledger) (G : Formed s) where
  abbrev C : Caps s.object s.cap
  C = G.caps

  abbrev Fit : ℕ → ℕ → Type 0
  Fit i k = Fits s.object (lines_of l) (s.cap i) k

  -- names and p1 are unique, so one line fits one capability
  pub same-slot : (i j k : ℕ) → Lives s.cap i → Lives s.cap j → Fit i k → Fit j k → i ≡ j
  same-slot i j k a b f g = C.passwords i j a b
      (G.objects.names (s.cap i).object (s.cap j).object (C.live i a).owned (C.live j b).owned
      (f.name ∙ sym g.name))
      (ap (λ (p : Password). p.p1) (f.password ∙ sym g.password))

  module _ (K : Linking s l) where
    -- so two capabilities have two lines
    num-same : (i j : ℕ) → Lives s.cap i → Lives s.cap j → K.num i ≡ K.num j → i ≡ j
    num-same i j a b e = same-slot i j (K.num j) a b (subst (Fit i) e (K.linked.fits i a)) (K.linked.fits j b)

    -- and one capability fits one line
    pub fits-num : (i k : ℕ) → Lives s.cap i → Fit i k → k ≡ K.num i
    fits-num i k a f =
        let b = K.linked.back k f.some f.low f.living in
        let g : Fit (K.slot k) k = subst (Fit (K.slot k)) b.1 (K.linked.fits (K.slot k) b.0) in
        let e = same-slot (K.slot k) i k b.0 a g f in
        sym b.1 ∙ ap K.num e

    -- a living capability's line is not 0
    pub num-some : (i : ℕ) → Lives s.cap i → K.num i ≢ 0
    num-some i h = let w = (K.linked.fits i h).some in omega arith

    -- the climb of a line is the path of its capability, so leading back is descent
    pub leads-descends : (i j : ℕ) → Lives s.cap i → Lives s.cap j
        → leads_back l (K.num i) (K.num j) ≡ descends s i j
    unfolding leads_back descends
    leads-descends i j a b =
        let u = climbs-map (Lives s.cap) K.num K.linked.none
        (λ x h. (K.linked.above x h, num-some x h, C.parent x h)) (λ n. a) (path-climbs s C i (λ n. a)) in
        let e = climbs-same (line-climbs l K.linked.later (K.num i) (K.linked.fits i a).low) u in
        bool_same (mem (K.num j) (climb_of l (K.num i))) (mem j (path s i))
        (λ q. one-mem j (path s i) (map-one K.num j (path s i)
        (λ x m r. num-same x j (path-lives s C i x a m) b r) (subst (OneOf (K.num j)) e (mem-one (K.num j) _ q))))
        (λ q. one-mem (K.num j) (climb_of l (K.num i))
        (subst (OneOf (K.num j)) (sym e) (one_map K.num j (path s i) (mem-one j (path s i) q))))

    -- a line's balance is its capability's moneyword
    pub balance-money : (k : ℕ) → Lives s.cap k → balance l (K.num k) ≡ s.money k
    unfolding balance
    balance-money k h = omega (arith, K.purse k h)
