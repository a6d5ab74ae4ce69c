-- First generic edit of the tree: the capabilities that pass a test end, where the test passes on to children.
use Prim.Native.Nat.{ℕ, ◌+◌}
use mathlib.Core.Path.{◌≡◌, sym, ap, ◌∙◌, subst}
use mathlib.Core.Logic.{◌≢◌}
use mathlib.Core.Bool.{Bool, true, false, not, true≢false}
use native.Mathlib.Omega.{arith}
use Rattle.rules.specs.Store.{Cap, State, no_cap, all_cash, all_boxes, money_in}
use Rattle.rules.specs.Valid.{Lives, LiveCap, ChildIn, Caps, IsMaster}
use Rattle.rules.specs.Update.{with_cap, with_money}
use Rattle.rules.specs.Changes.{end_where}
use Rattle.rules.specs.Ledger.{Ledger, leads_back, summed, end_lines}
use Rattle.rules.proofs.Tests.{by_bool, by-eq, refuted, both_true, all2, not-is-true, pick_yes, pick-not}
use Rattle.rules.proofs.Climbs.{climbs-frame}
use Rattle.rules.proofs.Sound.{Moneywords, HasMaster, Sound, sound-caps}
use Rattle.rules.proofs.Masters.{holds-none, no-master, Alike, same, idle, masters-same, masters-but}
use Rattle.rules.proofs.Lines.{lines_of}
use Rattle.rules.proofs.Link.{Fits, Linking}

module _ (s : State) (t : ℕ → Bool) where
  pub end-cap : (i : ℕ) → t i ≡ true → (end_where s t).cap i ≡ no_cap
  unfolding end_where with_money with_cap
  end-cap i e = pick_yes (t i) no_cap (s.cap i) e

  pub stay-cap : (i : ℕ) → t i ≡ false → (end_where s t).cap i ≡ s.cap i
  unfolding end_where with_money with_cap
  stay-cap i e = pick-not (t i) no_cap (s.cap i) e

  end-money : (i : ℕ) → t i ≡ true → (end_where s t).money i ≡ 0
  unfolding end_where with_money
  end-money i e = pick_yes (t i) 0 (s.money i) e

  pub stay-money : (i : ℕ) → t i ≡ false → (end_where s t).money i ≡ s.money i
  unfolding end_where with_money
  stay-money i e = pick-not (t i) 0 (s.money i) e

  -- ---- what lives after it

  pub not-ended : (i : ℕ) → Lives (end_where s t).cap i → t i ≡ false
  unfolding no_cap
  not-ended i h = refuted (t i) (λ e. h (ap (λ (x : Cap). x.object) (end-cap i e)))

  pub was : (i : ℕ) → Lives (end_where s t).cap i → Lives s.cap i
  was i h z = h (ap (λ (x : Cap). x.object) (stay-cap i (not-ended i h)) ∙ z)

  pub still : (i : ℕ) → Lives s.cap i → t i ≡ false → Lives (end_where s t).cap i
  still i h e z = h (sym (ap (λ (x : Cap). x.object) (stay-cap i e)) ∙ z)

  -- what holds of those that stay
  pub end_by : (P : ℕ → Cap → Type 0) → ((i : ℕ) → Lives s.cap i → t i ≡ false → P i (s.cap i))
      → (i : ℕ) → Lives (end_where s t).cap i → P i ((end_where s t).cap i)
  end_by P f i h = let e = not-ended i h in subst (P i) (sym (stay-cap i e)) (f i (was i h) e)

  -- a master that stays
  pub end-master : {o size : ℕ} (m : HasMaster s.cap o size) → t m.0 ≡ false
      → HasMaster (end_where s t).cap o size
  end-master {o} {size} m e = (m.0, subst (IsMaster o size) (sym (stay-cap m.0 e)) m.1)

-- ---- the store

module _ (s : State) (t : ℕ → Bool) (S : Sound s)
    (closed : (i : ℕ) → Lives s.cap i → (s.cap i).parent ≢ 0 → t (s.cap i).parent ≡ true → t i ≡ true) where
  abbrev C : Caps s.object s.cap
  C = S.caps

  abbrev cap' : ℕ → Cap
  cap' = (end_where s t).cap

  -- what stays has a parent that stays
  parent-not : (i : ℕ) → Lives s.cap i → t i ≡ false → (s.cap i).parent ≢ 0 → t (s.cap i).parent ≡ false
  parent-not i h e n = refuted (t (s.cap i).parent) (λ q. true≢false (sym (closed i h n q) ∙ e))

  parent-still : (i : ℕ) → Lives s.cap i → t i ≡ false → (s.cap i).parent ≢ 0 → Lives cap' (s.cap i).parent
  parent-still i h e n = still s t (s.cap i).parent (C.parent i h n) (parent-not i h e n)

  caps-end : Caps s.object (end_where s t).cap
  caps-end = record {
    live = end_by s t (LiveCap s.object) (λ i h e. C.live i h);
    free = λ i z. by_bool (t i) (end-cap s t i)
        (λ e. stay-cap s t i e ∙ C.free i (sym (ap (λ (x : Cap). x.object) (stay-cap s t i e)) ∙ z));
    passwords = λ i j a b.
        end_by s t (λ i x. x.object ≡ (cap' j).object → x.password.p1 ≡ (cap' j).password.p1 → i ≡ j)
        (λ i g d. end_by s t (λ j y. (s.cap i).object ≡ y.object → (s.cap i).password.p1 ≡ y.password.p1 → i ≡ j)
        (λ j h e. C.passwords i j g h) j b) i a;
    masters = λ i j a b.
        end_by s t (λ i x. x.object ≡ (cap' j).object → x.parent ≡ 0 → (cap' j).parent ≡ 0 → i ≡ j)
        (λ i g d. end_by s t (λ j y. (s.cap i).object ≡ y.object → (s.cap i).parent ≡ 0 → y.parent ≡ 0 → i ≡ j)
        (λ j h e. C.masters i j g h) j b) i a;
    ends = λ i h.
        let r = C.ends i (was s t i h) in (
          r.0,
          climbs-frame {p = λ j. (s.cap j).parent} {q = λ j. (cap' j).parent} (Lives cap')
              (λ j g. (
                ap (λ (x : Cap). x.parent) (stay-cap s t j (not-ended s t j g)),
                parent-still j (was s t j g) (not-ended s t j g),
              ))
              (λ n. h) r.1,
        );
    parent = end_by s t (λ i x. x.parent ≢ 0 → Lives cap' x.parent) parent-still;
    within = end_by s t (λ i x. x.parent ≢ 0 → ChildIn x (cap' x.parent))
        (λ i h e n. subst (ChildIn (s.cap i)) (sym (stay-cap s t (s.cap i).parent (parent-not i h e n)))
        (C.within i h n));
  }

  moneywords-end : Moneywords (end_where s t).cap (end_where s t).money
  moneywords-end = record {
    fits = λ i. by_bool (t i)
        (λ e. omega (arith, end-money s t i e))
        (λ e. omega (arith, stay-money s t i e, S.money.fits i));
    only = λ i z. by_bool (t i) (end-money s t i)
        (λ e. stay-money s t i e ∙ S.money.only i (sym (ap (λ (x : Cap). x.object) (stay-cap s t i e)) ∙ z));
  }

  pub sound-end : Sound (end_where s t)
  unfolding end_where with_money with_cap
  sound-end = sound-caps S (end_where s t).cap (end_where s t).money caps-end moneywords-end

  -- ---- the money total

  alike_end : (j : ℕ) → (Lives s.cap j → t j ≡ true → (s.cap j).parent ≢ 0) → Alike s (end_where s t) j
  alike_end j w = by_bool (t j)
      (λ e. idle
      (by-eq (s.cap j).object 0 (λ z. holds-none (S.money.only j z)) (λ n. no-master (w n e)))
      (holds-none (end-money s t j e)))
      (λ e. same (ap (λ (x : Cap). x.parent) (sym (stay-cap s t j e))) (sym (stay-money s t j e)))

  -- no master ends
  pub total-end-children : ((j : ℕ) → Lives s.cap j → t j ≡ true → (s.cap j).parent ≢ 0)
      → money_in (end_where s t) ≡ money_in s
  unfolding end_where with_money with_cap money_in all_cash all_boxes
  total-end-children w = omega (arith, masters-same s (end_where s t) (λ j. alike_end j (w j)))

  -- one master ends: its moneyword is gone
  pub total-end-master : (k : ℕ) → Lives s.cap k → (s.cap k).parent ≡ 0 → t k ≡ true
      → ((j : ℕ) → Lives s.cap j → t j ≡ true → (s.cap j).parent ≡ 0 → j ≡ k)
      → money_in (end_where s t) + s.money k ≡ money_in s
  unfolding end_where with_money with_cap money_in all_cash all_boxes no_cap
  total-end-master k h z e w =
      let b = C.live k h in
      let q : ((end_where s t).cap k).parent ≡ 0 = ap (λ (x : Cap). x.parent) (end-cap s t k e) in
      omega (
        arith,
        masters-but s (end_where s t) k b.some b.low (λ j n. alike_end j (λ g f y. n (w j g f y))) z q,
        end-money s t k e,
      )

  -- ---- the ledger: the lines of those that end

  pub link-end : (l : Ledger) (K : Linking s l) (u : ℕ → Bool)
      → ((i : ℕ) → Lives s.cap i → u (K.num i) ≡ t i) → Linking (end_where s t) (end_lines l u)
  unfolding end_where with_money with_cap end_lines summed leads_back
  link-end l K u agree = record {
    num = K.num;
    slot = K.slot;
    linked = record {
      none = K.linked.none;
      fits = end_by s t (λ i x. Fits s.object (lines_of (end_lines l u)) x (K.num i)) (λ i g e.
          let f = K.linked.fits i g in
          record {
            some = f.some;
            low = f.low;
            living = both_true (l.living (K.num i)) (not (u (K.num i))) f.living (ap not (agree i g ∙ e));
            name = f.name;
            password = f.password;
          });
      back = λ k a b e.
          let d = all2 (l.living k) (not (u k)) e in
          let r = K.linked.back k a b d.0 in
          let e = sym (agree (K.slot k) r.0) ∙ ap u r.1 ∙ not-is-true (u k) d.1 in
          (still s t (K.slot k) r.0 e, r.1);
      above = end_by s t (λ i x. (l.line (K.num i)).from ≡ K.num x.parent) (λ i g e. K.linked.above i g);
      later = K.linked.later;
    };
    purse = λ i h. omega (arith, K.purse i (was s t i h), stay-money s t i (not-ended s t i h));
    locked = K.locked;
  }
