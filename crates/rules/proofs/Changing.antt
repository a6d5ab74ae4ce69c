-- Two carried states stay so where both change alike: one part, some capabilities end, one is added, one object goes in
-- or out.
use Prim.Native.Nat.{ℕ, ◌+◌, ◌-◌}
use mathlib.Core.Path.{◌≡◌, sym, ap, ◌∙◌}
use mathlib.Core.Logic.{◌≢◌}
use mathlib.Core.Bool.{Bool, true, false}
use mathlib.Core.List.{List, []}
use lib.ListN.{replicate}
use Rattle.rules.specs.Slots.{at}
use Rattle.rules.specs.Store.{Lockword, Marks, Message, Object, Cap, State, no_lockword}
use Rattle.rules.specs.Valid.{Lives}
use Rattle.rules.specs.Update.{with_house, with_day, with_bytes, with_lock, with_cash, with_marks, with_box, with_cap, with_money}
use Rattle.rules.specs.Changes.{earn, spend, to_house, set_suspended, set_waiting, set_terminated, new_cap, end_where}
use Rattle.rules.specs.Changes.{new_object}
use Rattle.rules.proofs.Tests.{by-eq}
use Rattle.rules.proofs.Slots.{at_here, at-else}
use Rattle.rules.proofs.Ending.{stay-cap, stay-money, not-ended, was, still}
use Rattle.rules.proofs.Carried.{Maps, Alive, Along, carried, Moves, CarriedBy}
use Rattle.rules.proofs.Onto.{at-along}

-- the object in slot o here is in slot q there
abbrev pub placed : Maps → ℕ → ℕ → Maps
placed m o q = record {
  object = at m.object o q;
  cap = m.cap;
  object-back = at m.object-back q o;
  cap-back = m.cap-back;
}

-- the capability in slot i here is in slot j there
abbrev pub added : Maps → ℕ → ℕ → Maps
added m i j = record {
  object = m.object;
  cap = at m.cap i j;
  object-back = m.object-back;
  cap-back = at m.cap-back j i;
}

-- all parts by their places
parts : {m : Maps} {s t : State} → Moves m s.object t.object s.cap t.cap
    → t.house ≡ s.house
    → t.day ≡ s.day
    → Along (Alive s.object) m.object s.bytes t.bytes
    → Along (Alive s.object) m.object s.lock t.lock
    → Along (Alive s.object) m.object s.cash t.cash
    → Along (Alive s.object) m.object s.marks t.marks
    → Along (Alive s.object) m.object s.box t.box
    → Along (Lives s.cap) m.cap s.money t.money
    → CarriedBy m s t
parts M h y b l c k x w =
    record { moves = M; house = h; day = y; bytes = b; lock = l; cash = c; marks = k; box = x; money = w }

-- ---- one part changes

module _ {m : Maps} {s t : State} (A : CarriedBy m s t) where
  pub house-is : (x y : ℕ) → y ≡ x → CarriedBy m (with_house s x) (with_house t y)
  unfolding with_house
  house-is x y h = parts A.moves h A.day A.bytes A.lock A.cash A.marks A.box A.money

  pub set-day : (x : ℕ) → CarriedBy m (with_day s x) (with_day t x)
  unfolding with_day
  set-day x = parts A.moves A.house (λ d. x) A.bytes A.lock A.cash A.marks A.box A.money

  pub money-is : (x y : ℕ → ℕ) → Along (Lives s.cap) m.cap x y → CarriedBy m (with_money s x) (with_money t y)
  unfolding with_money
  money-is x y h = parts A.moves A.house A.day A.bytes A.lock A.cash A.marks A.box h

  pub to-house : (n k : ℕ) → k ≡ n → CarriedBy m (to_house s n) (to_house t k)
  unfolding to_house
  to-house n k e = house-is (s.house + n) (t.house + k) (λ d. A.house d + e d)

  -- two living objects are not taken to one slot
  module _ (once : (i j : ℕ) → Alive s.object i → Alive s.object j → m.object i ≡ m.object j → i ≡ j)
      (o q : ℕ) (live : Alive s.object o) (e : q ≡ m.object o) where
    pub bytes-at : (v w : List ℕ) → w ≡ v
        → CarriedBy m (with_bytes s (at s.bytes o v)) (with_bytes t (at t.bytes q w))
    unfolding with_bytes
    bytes-at v w h = parts A.moves A.house A.day (at-along s.bytes t.bytes A.bytes once o q live e v w h)
        A.lock A.cash A.marks A.box A.money

    pub lock-at : (v w : Lockword) → w ≡ v
        → CarriedBy m (with_lock s (at s.lock o v)) (with_lock t (at t.lock q w))
    unfolding with_lock
    lock-at v w h = parts A.moves A.house A.day A.bytes
        (at-along s.lock t.lock A.lock once o q live e v w h)
        A.cash A.marks A.box A.money

    pub cash-at : (v w : ℕ) → w ≡ v
        → CarriedBy m (with_cash s (at s.cash o v)) (with_cash t (at t.cash q w))
    unfolding with_cash
    cash-at v w h = parts A.moves A.house A.day A.bytes A.lock
        (at-along s.cash t.cash A.cash once o q live e v w h)
        A.marks A.box A.money

    pub marks-at : (v w : Marks) → w ≡ v
        → CarriedBy m (with_marks s (at s.marks o v)) (with_marks t (at t.marks q w))
    unfolding with_marks
    marks-at v w h = parts A.moves A.house A.day A.bytes A.lock A.cash
        (at-along s.marks t.marks A.marks once o q live e v w h)
        A.box A.money

    pub box-at : (v w : List Message) → w ≡ v
        → CarriedBy m (with_box s (at s.box o v)) (with_box t (at t.box q w))
    unfolding with_box
    box-at v w h = parts A.moves A.house A.day A.bytes A.lock A.cash A.marks
        (at-along s.box t.box A.box once o q live e v w h) A.money

    -- what the slot holds
    cash-here : t.cash q ≡ s.cash o
    cash-here = ap t.cash e ∙ A.cash o live

    marks-here : t.marks q ≡ s.marks o
    marks-here = ap t.marks e ∙ A.marks o live

    pub earned : (n k : ℕ) → k ≡ n → CarriedBy m (earn s o n) (earn t q k)
    unfolding earn
    earned n k h = cash-at (s.cash o + n) (t.cash q + k) (λ d. cash-here d + h d)

    pub spent : (n k : ℕ) → k ≡ n → CarriedBy m (spend s o n) (spend t q k)
    unfolding spend
    spent n k h = cash-at (s.cash o - n) (t.cash q - k) (λ d. cash-here d - h d)

    pub suspended : (b : Bool) → CarriedBy m (set_suspended s o b) (set_suspended t q b)
    unfolding set_suspended
    suspended b = marks-at _ _ (ap (λ (k : Marks). record {
      suspended = b;
      waiting = k.waiting;
      terminated = k.terminated;
    }) marks-here)

    pub waiting : (b : Bool) → CarriedBy m (set_waiting s o b) (set_waiting t q b)
    unfolding set_waiting
    waiting b = marks-at _ _ (ap (λ (k : Marks). record {
      suspended = k.suspended;
      waiting = b;
      terminated = k.terminated;
    }) marks-here)

    pub terminated : (b : Bool) → CarriedBy m (set_terminated s o b) (set_terminated t q b)
    unfolding set_terminated
    terminated b = marks-at _ _ (ap (λ (k : Marks). record {
      suspended = k.suspended;
      waiting = k.waiting;
      terminated = b;
    }) marks-here)

  -- ---- the capabilities that pass a test end

  module _ (p q : ℕ → Bool) (pq : (i : ℕ) → Lives s.cap i → q (m.cap i) ≡ p i) where
    ends-moves : Moves m s.object t.object (end_where s p).cap (end_where t q).cap
    ends-moves = record {
      no-object = A.moves.no-object;
      no-cap = A.moves.no-cap;
      object = A.moves.object;
      cap = λ i h.
          let g = was s p i h in
          let e = not-ended s p i h in
          stay-cap t q (m.cap i) (pq i g ∙ e) ∙ A.moves.cap i g ∙ ap (carried m) (sym (stay-cap s p i e));
      object-back = A.moves.object-back;
      cap-back = λ j h.
          let b = A.moves.cap-back j (was t q j h) in
          let i : ℕ = m.cap-back j in
          let e : p i ≡ false = sym (pq i b.0) ∙ ap q b.1 ∙ not-ended t q j h in
          (still s p i b.0 e, b.1);
    }

    ends-money : Along (Lives (end_where s p).cap) m.cap (end_where s p).money (end_where t q).money
    ends-money i h =
        let g = was s p i h in
        let e = not-ended s p i h in
        stay-money t q (m.cap i) (pq i g ∙ e) ∙ A.money i g ∙ sym (stay-money s p i e)

    pub ends-carried : CarriedBy m (end_where s p) (end_where t q)
    unfolding end_where with_money with_cap
    ends-carried = parts ends-moves A.house A.day A.bytes A.lock A.cash A.marks A.box ends-money

    -- those that stay are taken to such as stay
    pub ends-goes : ((i : ℕ) → Lives s.cap i → Lives t.cap (m.cap i))
        → (i : ℕ) → Lives (end_where s p).cap i → Lives (end_where t q).cap (m.cap i)
    ends-goes f i h = let g = was s p i h in still t q (m.cap i) (f i g) (pq i g ∙ not-ended s p i h)

  -- ---- a capability is added

  module _ (i j : ℕ) (x y : Cap) (v w : ℕ)
      (i-some : i ≢ 0) (i-free : (s.cap i).object ≡ 0) (j-free : (t.cap j).object ≡ 0)
      (goes : (k : ℕ) → Lives s.cap k → Lives t.cap (m.cap k))
      (above : (k : ℕ) → Lives s.cap k → (s.cap k).parent ≢ 0 → Lives s.cap (s.cap k).parent)
      (alive : x.object ≢ 0) (up : x.parent ≢ 0 → Lives s.cap x.parent) where
    old : (k : ℕ) → Lives s.cap k → at m.cap i j k ≡ m.cap k
    old k h = at-else m.cap i j k (λ e. h (ap (λ z. (s.cap z).object) e ∙ i-free))

    none : at m.cap i j 0 ≡ 0
    none = at-else m.cap i j 0 (λ e. i-some (sym e)) ∙ A.moves.no-cap

    -- a parent that lives is where it was
    recast : (z : Cap) → (z.parent ≢ 0 → Lives s.cap z.parent) → carried m z ≡ carried (added m i j) z
    recast z h = λ d. record {
      object = m.object z.object;
      parent = parent d;
      password = z.password;
      window = z.window;
      rights = z.rights;
      last_day = z.last_day;
    }
      where
        parent : m.cap z.parent ≡ at m.cap i j z.parent
        parent = by-eq z.parent 0
            (λ e. ap m.cap e ∙ A.moves.no-cap ∙ sym none ∙ ap (at m.cap i j) (sym e))
            (λ n. sym (old z.parent (h n)))

    -- what lives after it in another slot lived before
    was-here : (k : ℕ) → k ≢ i → Lives (at s.cap i x) k → Lives s.cap k
    was-here k n h z = h (ap (λ (c : Cap). c.object) (at-else s.cap i x k n) ∙ z)

    was-there : (k : ℕ) → k ≢ j → Lives (at t.cap j y) k → Lives t.cap k
    was-there k n h z = h (ap (λ (c : Cap). c.object) (at-else t.cap j y k n) ∙ z)

    not-j : (k : ℕ) → Lives s.cap k → at m.cap i j k ≢ j
    not-j k g z = goes k g (ap (λ c. (t.cap c).object) (sym (old k g) ∙ z) ∙ j-free)

    adds-moves : y ≡ carried m x → Moves (added m i j) s.object t.object (at s.cap i x) (at t.cap j y)
    adds-moves e = record {
      no-object = A.moves.no-object;
      no-cap = none;
      object = A.moves.object;
      cap = λ k h. by-eq k i
          (λ d. ap (at t.cap j y) (ap (at m.cap i j) d ∙ at_here m.cap i j) ∙ at_here t.cap j y
          ∙ e ∙ recast x up ∙ ap (carried (added m i j)) (sym (ap (at s.cap i x) d ∙ at_here s.cap i x)))
          (λ n.
          let g = was-here k n h in
          at-else t.cap j y (at m.cap i j k) (not-j k g) ∙ ap t.cap (old k g) ∙ A.moves.cap k g
          ∙ recast (s.cap k) (above k g) ∙ ap (carried (added m i j)) (sym (at-else s.cap i x k n)));
      object-back = A.moves.object-back;
      cap-back = λ k h. by-eq k j
          (λ d.
          let b = ap (at m.cap-back j i) d ∙ at_here m.cap-back j i in (
            λ z. alive (sym (ap (λ (c : Cap). c.object) (ap (at s.cap i x) b ∙ at_here s.cap i x)) ∙ z),
            ap (at m.cap i j) b ∙ at_here m.cap i j ∙ sym d,
          ))
          (λ n.
          let b = A.moves.cap-back k (was-there k n h) in
          let l : ℕ = m.cap-back k in
          let d = at-else m.cap-back j i k n in
          let ne : l ≢ i = λ z. b.0 (ap (λ c. (s.cap c).object) z ∙ i-free) in (
            λ z. b.0 (sym (ap (λ (c : Cap). c.object) (ap (at s.cap i x) d ∙ at-else s.cap i x l ne)) ∙ z),
            ap (at m.cap i j) d ∙ old l b.0 ∙ b.1,
          ));
    }

    adds-money : w ≡ v → Along (Lives (at s.cap i x)) (at m.cap i j) (at s.money i v) (at t.money j w)
    adds-money e k h = by-eq k i
        (λ d. ap (at t.money j w) (ap (at m.cap i j) d ∙ at_here m.cap i j) ∙ at_here t.money j w
        ∙ e ∙ sym (ap (at s.money i v) d ∙ at_here s.money i v))
        (λ n.
        let g = was-here k n h in
        at-else t.money j w (at m.cap i j k) (not-j k g) ∙ ap t.money (old k g) ∙ A.money k g
        ∙ sym (at-else s.money i v k n))

    pub adds_carried : y ≡ carried m x → w ≡ v → CarriedBy (added m i j) (new_cap s i x v) (new_cap t j y w)
    unfolding new_cap with_money with_cap
    adds_carried d e =
        parts (adds-moves d) A.house A.day A.bytes A.lock A.cash A.marks A.box (adds-money e)

  -- ---- an object is put in slot o here and in slot q there, where no capability is for it

  module _ (o q : ℕ) (x : Object) (o-some : o ≢ 0)
      (alone : (i : ℕ) → Lives s.cap i → (s.cap i).object ≢ o)
      (else-there : (j : ℕ) → Alive s.object j → j ≢ o → m.object j ≢ q)
      (else-here : (j : ℕ) → Alive t.object j → j ≢ q → m.object-back j ≢ o) where
    place-along : {B : Type 0} (a b : ℕ → B) (v : B) → Along (Alive s.object) m.object a b
        → Along (Alive (at s.object o x)) (at m.object o q) (at a o v) (at b q v)
    place-along a b v h j g = by-eq j o
        (λ d. ap (at b q v) (ap (at m.object o q) d ∙ at_here m.object o q) ∙ at_here b q v
        ∙ sym (ap (at a o v) d ∙ at_here a o v))
        (λ n.
        let e = at-else m.object o q j n in
        let k = sym (ap (λ (y : Object). y.live) (at-else s.object o x j n)) ∙ g in
        at-else b q v (at m.object o q j) (λ z. else-there j k n (sym e ∙ z)) ∙ ap b e ∙ h j k
        ∙ sym (at-else a o v j n))

    -- a capability's object is another
    reowned : (i : ℕ) → Lives s.cap i → carried m (s.cap i) ≡ carried (placed m o q) (s.cap i)
    reowned i h =
        let e = sym (at-else m.object o q (s.cap i).object (alone i h)) in
        λ d. record {
          object = e d;
          parent = m.cap (s.cap i).parent;
          password = (s.cap i).password;
          window = (s.cap i).window;
          rights = (s.cap i).rights;
          last_day = (s.cap i).last_day;
        }

    place-moves : Moves (placed m o q) (at s.object o x) (at t.object q x) s.cap t.cap
    place-moves = record {
      no-object = at-else m.object o q 0 (λ e. o-some (sym e)) ∙ A.moves.no-object;
      no-cap = A.moves.no-cap;
      object = place-along s.object t.object x A.moves.object;
      cap = λ i h. A.moves.cap i h ∙ reowned i h;
      object-back = λ j h. by-eq j q
          (λ d.
          let b = ap (at m.object-back q o) d ∙ at_here m.object-back q o in
          let e : x.live ≡ true =
          sym (ap (λ (y : Object). y.live) (ap (at t.object q x) d ∙ at_here t.object q x)) ∙ h in (
            ap (λ (y : Object). y.live) (ap (at s.object o x) b ∙ at_here s.object o x) ∙ e,
            ap (at m.object o q) b ∙ at_here m.object o q ∙ sym d,
          ))
          (λ n.
          let k = sym (ap (λ (y : Object). y.live) (at-else t.object q x j n)) ∙ h in
          let b = A.moves.object-back j k in
          let d = at-else m.object-back q o j n in
          let l : ℕ = m.object-back j in
          let ne : l ≢ o = else-here j k n in (
            ap (λ (y : Object). y.live) (ap (at s.object o x) d ∙ at-else s.object o x l ne) ∙ b.0,
            ap (at m.object o q) d ∙ at-else m.object o q l ne ∙ b.1,
          ));
      cap-back = A.moves.cap-back;
    }

    pub place-carried : CarriedBy (placed m o q) (new_object s o x) (new_object t q x)
    unfolding new_object
    place-carried = parts place-moves A.house A.day
        (place-along s.bytes t.bytes (replicate x.size 0) A.bytes)
        (place-along s.lock t.lock no_lockword A.lock)
        (place-along s.cash t.cash 0 A.cash)
        (place-along s.marks t.marks (record { suspended = x.process; waiting = false; terminated = false })
        A.marks)
        (place-along s.box t.box [] A.box)
        A.money
