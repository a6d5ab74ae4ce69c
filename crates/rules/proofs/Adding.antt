-- Second generic edit of the tree: a capability is added in a free slot, and its line.
use Prim.Native.Nat.{ℕ, suc, ◌+◌, ◌≤◌}
use mathlib.Core.Path.{◌≡◌, refl, sym, ap, ◌∙◌, subst}
use mathlib.Core.Logic.{◌≢◌}
use mathlib.Core.Bool.{Bool, true}
use mathlib.Core.List.{List, [], ◌∷◌}
use native.Mathlib.Omega.{arith}
use Rattle.rules.specs.Slots.{at}
use Rattle.rules.specs.Store.{Object, Cap, State, no_cap, all_cash, all_boxes, money_in}
use Rattle.rules.specs.Valid.{Lives, LiveCap, ChildIn, Climbs, top, step, Caps, IsMaster}
use Rattle.rules.specs.Update.{with_cap, with_money}
use Rattle.rules.specs.Changes.{new_cap}
use Rattle.rules.specs.Ledger.{Line, Ledger, summed, add}
use Rattle.rules.proofs.Tests.{by-eq}
use Rattle.rules.proofs.Slots.{at-by, at_here, at-else, at_all, at_both}
use Rattle.rules.proofs.Climbs.{climbs-frame}
use Rattle.rules.proofs.Sound.{HasMaster, Sound, sound-caps}
use Rattle.rules.proofs.Masters.{holds-none, no-master, Alike, same, idle, masters-same, masters-but}
use Rattle.rules.proofs.Lines.{lines_of, later-add, summed-old, summed-new}
use Rattle.rules.proofs.Link.{Fits, Linked, Linking}

-- ---- capabilities, where x is put in the free slot i₀

module _ (cap : ℕ → Cap) (i₀ : ℕ) (x : Cap) (free : (cap i₀).object ≡ 0) (alive : x.object ≢ 0) where
  abbrev cap' : ℕ → Cap
  cap' = at cap i₀ x

  add-else : (j : ℕ) → Lives cap j → at cap i₀ x j ≡ cap j
  add-else j h = at-else cap i₀ x j (λ e. h (ap (λ y. (cap y).object) e ∙ free))

  add-still : (j : ℕ) → Lives cap j → Lives (at cap i₀ x) j
  add-still j h z = h (sym (ap (λ (y : Cap). y.object) (add-else j h)) ∙ z)

  add-new : Lives (at cap i₀ x) i₀
  add-new z = alive (sym (ap (λ (y : Cap). y.object) (at_here cap i₀ x)) ∙ z)

  -- what holds of the new one and of the old ones
  add-by : (P : ℕ → Cap → Type 0) → P i₀ x → ((j : ℕ) → Lives cap j → P j (cap j))
      → (j : ℕ) → Lives (at cap i₀ x) j → P j (at cap i₀ x j)
  add-by P p f = at-by (λ j y. y.object ≢ 0 → P j y) cap i₀ x (λ n. p) (λ j m. f j)

  -- a master of another object stays
  pub add-master : {o size : ℕ} → o ≢ 0 → HasMaster cap o size → HasMaster (at cap i₀ x) o size
  add-master {o} {size} n m =
      (m.0, subst (IsMaster o size) (sym (add-else m.0 (λ z. n (sym m.1.of ∙ z)))) m.1)

  -- what is asked of the new one: it is a child in a living parent, or the first of its object
  pub record Joins (object : ℕ → Object) : Type 0 where
    pub fits : LiveCap object i₀ x
    pub above : x.parent ≢ 0 → Lives cap x.parent
    pub within : x.parent ≢ 0 → ChildIn x (cap x.parent)
    pub fresh : (j : ℕ) → Lives cap j → (cap j).object ≡ x.object → (cap j).password.p1 ≢ x.password.p1
    pub only : x.parent ≡ 0 → (j : ℕ) → Lives cap j → (cap j).object ≡ x.object → (cap j).parent ≢ 0

  -- a master, where its object has no capability
  pub joins-first : (object : ℕ → Object) → LiveCap object i₀ x → x.parent ≡ 0
      → ((j : ℕ) → Lives cap j → (cap j).object ≢ x.object) → Joins object
  joins-first object f z alone = record {
    fits = f;
    above = λ n. absurd (n z);
    within = λ n. absurd (n z);
    fresh = λ j h e. absurd (alone j h e);
    only = λ p j h e. absurd (alone j h e);
  }

  module _ (object : ℕ → Object) (C : Caps object cap) (J : Joins object) where
    abbrev Ends : ℕ → Type 0
    Ends j = (xs : List ℕ) × Climbs (λ y. (cap' y).parent) j xs

    ends-old : (j : ℕ) → Lives cap j → Ends j
    ends-old j h =
        let e = C.ends j h in (
          e.0,
          climbs-frame {p = λ y. (cap y).parent} {q = λ y. (cap' y).parent} (Lives cap)
              (λ y g. (ap (λ (z : Cap). z.parent) (add-else y g), C.parent y g)) (λ n. h) e.1,
        )

    ends-new : Ends i₀
    ends-new =
        let n : i₀ ≢ 0 = λ z. let w = J.fits.some in omega arith in
        let q : (cap' i₀).parent ≡ x.parent = ap (λ (z : Cap). z.parent) (at_here cap i₀ x) in
        by-eq x.parent 0
        (λ e. (i₀ ∷ [], step n (subst (λ y. Climbs (λ z. (cap' z).parent) y []) (sym (q ∙ e)) top)))
        (λ m.
        let r = ends-old x.parent (J.above m) in
        (i₀ ∷ r.0, step n (subst (λ y. Climbs (λ z. (cap' z).parent) y r.0) (sym q) r.1)))

    pub caps-add : Caps object (at cap i₀ x)
    caps-add = record {
      live = add-by (LiveCap object) J.fits C.live;
      free = at-by (λ j y. y.object ≡ 0 → y ≡ no_cap) cap i₀ x (λ z. absurd (alive z)) (λ j n. C.free j);
      passwords = λ i j a b.
          add-by (λ i y. y.object ≡ (cap' j).object → y.password.p1 ≡ (cap' j).password.p1 → i ≡ j)
          (add-by (λ j z. x.object ≡ z.object → x.password.p1 ≡ z.password.p1 → i₀ ≡ j)
          (λ e f. refl) (λ j h e f. absurd (J.fresh j h (sym e) (sym f))) j b)
          (λ i g. add-by (λ j z. (cap i).object ≡ z.object → (cap i).password.p1 ≡ z.password.p1 → i ≡ j)
          (λ e f. absurd (J.fresh i g e f)) (λ j h. C.passwords i j g h) j b) i a;
      masters = λ i j a b.
          add-by (λ i y. y.object ≡ (cap' j).object → y.parent ≡ 0 → (cap' j).parent ≡ 0 → i ≡ j)
          (add-by (λ j z. x.object ≡ z.object → x.parent ≡ 0 → z.parent ≡ 0 → i₀ ≡ j)
          (λ e f g. refl) (λ j h e f g. absurd (J.only f j h (sym e) g)) j b)
          (λ i k. add-by (λ j z. (cap i).object ≡ z.object → (cap i).parent ≡ 0 → z.parent ≡ 0 → i ≡ j)
          (λ e f g. absurd (J.only g i k e f)) (λ j h. C.masters i j k h) j b) i a;
      ends = add-by (λ j y. Ends j) ends-new ends-old;
      parent = add-by (λ j y. y.parent ≢ 0 → Lives cap' y.parent)
          (λ n. add-still x.parent (J.above n)) (λ j h n. add-still (cap j).parent (C.parent j h n));
      within = add-by (λ j y. y.parent ≢ 0 → ChildIn y (cap' y.parent))
          (λ n. subst (ChildIn x) (sym (add-else x.parent (J.above n))) (J.within n))
          (λ j h n. subst (ChildIn (cap j)) (sym (add-else (cap j).parent (C.parent j h n))) (C.within j h n));
    }

-- ---- the store

module _ (s : State) (S : Sound s) (i₀ : ℕ) (x : Cap) (m : ℕ) (free : (s.cap i₀).object ≡ 0) (alive : x.object ≢ 0)
    (J : Joins s.cap i₀ x free alive s.object) where
  pub sound-add : m ≤ 4294967295 → Sound (new_cap s i₀ x m)
  unfolding new_cap
  sound-add b = sound-caps S (at s.cap i₀ x) (at s.money i₀ m)
      (caps-add s.cap i₀ x free alive s.object S.caps J)
      (record {
        fits = at_all (λ z. z ≤ 4294967295) s.money i₀ m S.money.fits b;
        only = at_both (λ i (y : Cap) z. y.object ≡ 0 → z ≡ 0) s.cap s.money i₀ x m
            (λ z. absurd (alive z)) (λ i n. S.money.only i);
      })

  -- ---- the money total

  alike-else : (j : ℕ) → j ≢ i₀ → Alike s (new_cap s i₀ x m) j
  unfolding new_cap with_money with_cap
  alike-else j n =
      same (ap (λ (y : Cap). y.parent) (sym (at-else s.cap i₀ x j n))) (sym (at-else s.money i₀ m j n))

  new-parent : ((new_cap s i₀ x m).cap i₀).parent ≡ x.parent
  unfolding new_cap with_money with_cap
  new-parent = ap (λ (y : Cap). y.parent) (at_here s.cap i₀ x)

  -- a child's moneyword is not in the total
  pub total-add-child : x.parent ≢ 0 → money_in (new_cap s i₀ x m) ≡ money_in s
  unfolding new_cap with_money with_cap money_in all_cash all_boxes
  total-add-child n = omega (
    arith,
    masters-same s (new_cap s i₀ x m) (λ j. by-eq j i₀
        (λ e. subst (Alike s (new_cap s i₀ x m)) (sym e)
        (idle (holds-none (S.money.only i₀ free)) (no-master (λ z. n (sym new-parent ∙ z)))))
        (alike-else j)),
  )

  -- a master's is
  pub total-add-master : x.parent ≡ 0 → money_in (new_cap s i₀ x m) ≡ money_in s + m
  unfolding new_cap with_money with_cap money_in all_cash all_boxes no_cap
  total-add-master z =
      let p : (s.cap i₀).parent ≡ 0 = ap (λ (y : Cap). y.parent) (S.caps.free i₀ free) in
      let b = J.fits in
      omega (
        arith,
        masters-but s (new_cap s i₀ x m) i₀ b.some b.low alike-else p (new-parent ∙ z),
        S.money.only i₀ free,
        at_here s.money i₀ m,
      )

  -- ---- the ledger: one line added, from the line of the new one's parent

  module _ (l : Ledger) (K : Linking s l) (y : Line)
      (name : (s.object x.object).name ≡ y.name) (password : x.password ≡ y.password)
      (from : y.from ≡ K.num x.parent) (below : y.from ≤ l.count) (first : y.first ≡ m) where
    abbrev new : ℕ
    new = suc l.count

    abbrev num' : ℕ → ℕ
    num' = at K.num i₀ (suc l.count)

    some : i₀ ≢ 0
    some z = let w = J.fits.some in omega arith

    -- old capabilities keep their lines, and old lines stay
    num-else : (j : ℕ) → (j ≢ 0 → Lives s.cap j) → num' j ≡ K.num j
    num-else j h = at-else K.num i₀ new j (λ e. h (λ z. some (sym e ∙ z)) (ap (λ y. (s.cap y).object) e ∙ free))

    line-else : (k : ℕ) → k ≤ l.count → at l.line (suc l.count) y k ≡ l.line k
    line-else k h = at-else l.line new y k (omega arith)

    abbrev Fit : Cap → ℕ → Type 0
    Fit = Fits s.object (lines_of (add l y))

    fits-new : Fit x (at K.num i₀ (suc l.count) i₀)
    unfolding add
    fits-new =
        let e : at l.line new y new ≡ y = at_here l.line new y in
        subst (Fit x) (sym (at_here K.num i₀ new)) (record {
          some = omega arith;
          low = omega arith;
          living = at_here l.living new true;
          name = name ∙ ap (λ (z : Line). z.name) (sym e);
          password = password ∙ ap (λ (z : Line). z.password) (sym e);
        })

    fits-old : (j : ℕ) → Lives s.cap j → Fit (s.cap j) (at K.num i₀ (suc l.count) j)
    unfolding add
    fits-old j h =
        let f = K.linked.fits j h in
        let e = line-else (K.num j) f.low in
        subst (Fit (s.cap j)) (sym (num-else j (λ n. h))) (record {
          some = f.some;
          low = omega (arith, f.low);
          living = at-else l.living new true (K.num j) (omega (arith, f.low)) ∙ f.living;
          name = f.name ∙ ap (λ (z : Line). z.name) (sym e);
          password = f.password ∙ ap (λ (z : Line). z.password) (sym e);
        })

    linked-add : Linked s.object (at s.cap i₀ x) (lines_of (add l y)) (at K.num i₀ (suc l.count))
        (at K.slot (suc l.count) i₀)
    unfolding add
    linked-add = record {
      none = num-else 0 (λ n. absurd (n refl)) ∙ K.linked.none;
      fits = add-by s.cap i₀ x free alive (λ j z. Fit z (num' j)) fits-new fits-old;
      back = λ k a b. at_both
          (λ k (v : Bool) i. k ≤ new → 1 ≤ k → v ≡ true → Lives (at s.cap i₀ x) i × (num' i ≡ k))
          l.living K.slot new true i₀
          (λ b a e. (add-new s.cap i₀ x free alive, at_here K.num i₀ new))
          (λ k n b a e.
          let r = K.linked.back k a (omega arith) e in
          let i = K.slot k in
          (add-still s.cap i₀ x free alive i r.0, num-else i (λ m. r.0) ∙ r.1)) k b a;
      above = add-by s.cap i₀ x free alive (λ j z. (at l.line new y (num' j)).from ≡ num' z.parent)
          (ap (λ z. (at l.line new y z).from) (at_here K.num i₀ new)
          ∙ ap (λ (z : Line). z.from) (at_here l.line new y) ∙ from ∙ sym (num-else x.parent J.above))
          (λ j h.
          ap (λ z. (at l.line new y z).from) (num-else j (λ n. h))
          ∙ ap (λ (z : Line). z.from) (line-else (K.num j) (K.linked.fits j h).low)
          ∙ K.linked.above j h
          ∙ sym (num-else (s.cap j).parent (S.caps.parent j h)));
      later = later-add l y K.linked.later below;
    }

    -- the purse equation at a line g whose capability has moneyword w
    abbrev Purse : ℕ → ℕ → Type 0
    Purse g w = ((add l y).line g).first + summed (add l y) (add l y).paid_in g ≡ w + summed (add l y) (add l y).drawn g

    purse-new : Purse (suc l.count) m
    unfolding add
    purse-new =
        let r : (at l.line new y new).first ≡ y.first = ap (λ (z : Line). z.first) (at_here l.line new y) in
        let L = K.linked.later in
        omega (arith, r, first, summed-new l y L below l.drawn, summed-new l y L below l.paid_in)

    purse-old : (j : ℕ) → Lives s.cap j → Purse (K.num j) (s.money j)
    unfolding add
    purse-old j h =
        let g : ℕ = K.num j in
        let r = ap (λ (z : Line). z.first) (line-else g (K.linked.fits j h).low) in
        let L = K.linked.later in
        omega (arith, r, K.purse j h, summed-old l y L below l.drawn g, summed-old l y L below l.paid_in g)

    pub link-add : Linking (new_cap s i₀ x m) (add l y)
    unfolding new_cap with_money with_cap add
    link-add = record {
      num = num';
      slot = at K.slot new i₀;
      linked = linked-add;
      purse = at_both (λ i g w. Lives (at s.cap i₀ x) i → Purse g w) K.num s.money i₀ new m (λ h. purse-new)
          (λ i n h. purse-old i (λ z. h (ap (λ (y : Cap). y.object) (at-else s.cap i₀ x i n) ∙ z)));
      locked = K.locked;
    }
