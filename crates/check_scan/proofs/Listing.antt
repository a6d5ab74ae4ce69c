-- The list of the living slots: how it grows, and what its next entry says.
use Prim.Native.Nat.{ℕ, ◌+◌, ◌-◌, ◌≤◌, ◌<◌}
use mathlib.Core.Path.{◌≡◌, sym, ◌∙◌}
use mathlib.Core.Logic.{◌≢◌}
use mathlib.Core.List.{List}
use lib.ListN.{get_or, set, length, length-set, take, length-take}
use lib.Seq.{get_or-set_same, get_or-set_other, get_or-take}
use native.Mathlib.Decide.{ℕ_discrete}
use native.Mathlib.Omega.{arith}
use Rattle.layout.specs.Rows.{owner_of}
use Rattle.check_scan.specs.Slots.{OneOfEntries, Slots, NextPlace}

pub no-entry : (l list : List ℕ) → Slots l list 0 0 512 512
no-entry l list = record {
  size = omega arith;
  room = omega arith;
  cover = λ i above upto live. absurd (omega arith);
  falls = λ m q a b c. absurd (omega arith);
  low = λ m a b. absurd (omega arith);
  high = λ m a b. absurd (omega arith);
}

-- ---- slot j is written at the end of the list, and stays there if it lives

module _ (l list : List ℕ) (n j : ℕ) (s : Slots l list 0 n j 512) (up : 1 ≤ j) (more : n < length list) where
  same-below : (m : ℕ) → m < n → get_or (set list n j) m 0 ≡ get_or list m 0
  same-below m h = get_or-set_other list n m j 0 (λ e. omega arith)

  at-end : get_or (set list n j) n 0 ≡ j
  at-end = get_or-set_same list n j 0 more

  old-entry : (r i : ℕ) → n ≤ r → j < i → i ≤ 512 → owner_of l i ≢ 0 → OneOfEntries (set list n j) 0 r i
  old-entry r i more above upto live =
      let e = s.cover i above upto live in
      record {
        place = e.place;
        from = omega arith;
        before = omega (arith, e.before);
        is = same-below e.place e.before ∙ e.is;
      }

  passed_over : owner_of l j ≡ 0 → Slots l (set list n j) 0 n (j - 1) 512
  passed_over z = record {
    size = omega (arith, length-set list n j);
    room = omega (arith, s.room);
    cover = cover;
    falls = λ m q a b c.
        omega (arith, same-below m (omega arith), same-below q c, s.falls m q a b c);
    low = λ m a b. omega (arith, same-below m b, s.low m a b);
    high = λ m a b. omega (arith, same-below m b, s.high m a b);
  }
    where
      cover : (i : ℕ) → j - 1 < i → i ≤ 512 → owner_of l i ≢ 0 → OneOfEntries (set list n j) 0 n i
      cover i above upto live = go (ℕ_discrete i j)
        where
          go : Dec (i ≡ j) → OneOfEntries (set list n j) 0 n i
          go (yes e) = absurd (live (rw e z))
          go (no ne) = old-entry n i (omega arith) (omega arith) upto live

  taken_in : Slots l (set list n j) 0 (n + 1) (j - 1) 512
  taken_in = record {
    size = omega (arith, length-set list n j);
    room = omega (arith, s.room);
    cover = cover;
    falls = falls;
    low = low;
    high = high;
  }
    where
      cover : (i : ℕ) → j - 1 < i → i ≤ 512 → owner_of l i ≢ 0 → OneOfEntries (set list n j) 0 (n + 1) i
      cover i above upto live = go (ℕ_discrete i j)
        where
          go : Dec (i ≡ j) → OneOfEntries (set list n j) 0 (n + 1) i
          go (yes e) = record { place = n; from = omega arith; before = omega arith; is = at-end ∙ sym e }
          go (no ne) = old-entry (n + 1) i (omega arith) (omega arith) upto live

      low : (m : ℕ) → 0 ≤ m → m < n + 1 → j - 1 < get_or (set list n j) m 0
      low m a b = go (ℕ_discrete m n)
        where
          go : Dec (m ≡ n) → j - 1 < get_or (set list n j) m 0
          go (yes e) = rw e (omega (arith, at-end))
          go (no ne) = omega (arith, same-below m (omega arith), s.low m a (omega arith))

      high : (m : ℕ) → 0 ≤ m → m < n + 1 → get_or (set list n j) m 0 ≤ 512
      high m a b = go (ℕ_discrete m n)
        where
          go : Dec (m ≡ n) → get_or (set list n j) m 0 ≤ 512
          go (yes e) = rw e (omega (arith, at-end, s.room))
          go (no ne) = omega (arith, same-below m (omega arith), s.high m a (omega arith))

      falls : (m q : ℕ) → 0 ≤ m → m < q → q < n + 1 → get_or (set list n j) q 0 < get_or (set list n j) m 0
      falls m q a b c = go (ℕ_discrete q n)
        where
          go : Dec (q ≡ n) → get_or (set list n j) q 0 < get_or (set list n j) m 0
          go (yes e) = rw e (omega (arith, at-end, same-below m (omega arith), s.low m a (omega arith)))
          go (no ne) =
              omega (arith, same-below m (omega arith), same-below q (omega arith), s.falls m q a b (omega arith))

  pub one_entry : (r : ℕ) → NextPlace l j n r → Slots l (set list n j) 0 r (j - 1) 512
  one_entry r next = go (ℕ_discrete (owner_of l j) 0)
    where
      go : Dec (owner_of l j ≡ 0) → Slots l (set list n j) 0 r (j - 1) 512
      go (yes z) = rw (next.free z) (passed_over z)
      go (no lives) = rw (next.lives lives) taken_in

pub all_listed : (l list : List ℕ) (n j : ℕ) → j ≤ 0 → Slots l list 0 n j 512 → Slots l list 0 n 0 512
all_listed l list n j z s = let e : j ≡ 0 = omega arith in rw e at s

-- the entries alone
pub listed : (l list : List ℕ) (n : ℕ) → Slots l list 0 n 0 512 → Slots l (take n list) 0 (length (take n list)) 0 512
listed l list n s = let e : length (take n list) ≡ n = omega (arith, s.size, length-take n list) in rw e (record {
  size = omega (arith, s.size, length-take n list);
  room = s.room;
  cover = λ i above upto lives.
      let e = s.cover i above upto lives in
      record { place = e.place; from = e.from; before = e.before; is = get_or-take n list e.place 0 e.before ∙ e.is };
  falls = λ m q a b c.
      omega (arith, get_or-take n list m 0 (omega arith), get_or-take n list q 0 c, s.falls m q a b c);
  low = λ m a b. omega (arith, get_or-take n list m 0 b, s.low m a b);
  high = λ m a b. omega (arith, get_or-take n list m 0 b, s.high m a b);
})

-- ---- the entries from k on are the living slots up to p

module _ (l list : List ℕ) (k n p : ℕ) (s : Slots l list k n 0 p) where
  -- no living slot is left
  pub all-free : n ≤ k → (i : ℕ) → 0 < i → i ≤ p → owner_of l i ≡ 0
  all-free z i above upto = go (ℕ_discrete (owner_of l i) 0)
    where
      go : Dec (owner_of l i ≡ 0) → owner_of l i ≡ 0
      go (yes e) = e
      go (no lives) = let e = s.cover i above upto lives in absurd (omega (arith, e.from, e.before))

  module _ (more : k < n) where
    -- none lives above the next entry
    pub free-above : (i : ℕ) → get_or list k 0 < i → i ≤ p → owner_of l i ≡ 0
    free-above i above upto = go (ℕ_discrete (owner_of l i) 0)
      where
        late : (e : OneOfEntries list k n i) → Dec (e.place ≡ k) → ⊥
        late e (yes at) = omega (arith, e.is, rw at at e.is)
        late e (no ne) = omega (arith, e.is, s.falls k e.place (omega arith) (omega (arith, e.from)) e.before)

        go : Dec (owner_of l i ≡ 0) → owner_of l i ≡ 0
        go (yes e) = e
        go (no lives) = let e = s.cover i (omega arith) upto lives in absurd (late e (ℕ_discrete e.place k))

    pub next-entry : Slots l list (k + 1) n 0 (get_or list k 0 - 1)
    next-entry = record {
      size = s.size;
      room = s.room;
      cover = cover;
      falls = λ m q a. s.falls m q (omega arith);
      low = λ m a. s.low m (omega arith);
      high = λ m a b. omega (arith, s.falls k m (omega arith) (omega arith) b);
    }
      where
        cover : (i : ℕ) → 0 < i → i ≤ get_or list k 0 - 1 → owner_of l i ≢ 0 → OneOfEntries list (k + 1) n i
        cover i above upto lives = let e = s.cover i above (omega (arith, s.high k (omega arith) more)) lives in
            go e (ℕ_discrete e.place k)
          where
            go : (e : OneOfEntries list k n i) → Dec (e.place ≡ k) → OneOfEntries list (k + 1) n i
            go e (yes at) = absurd (omega (arith, rw at at e.is))
            go e (no ne) =
                record { place = e.place; from = omega (arith, e.from); before = e.before; is = e.is }
