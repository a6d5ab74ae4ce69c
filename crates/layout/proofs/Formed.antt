-- The tests of a check make a store well formed: with the shape of its links, what is asked of its fields is all that
-- is left.
use Prim.Native.Nat.{ℕ, ◌*◌, ◌≤◌}
use mathlib.Core.Path.{◌≡◌, refl, sym, ap, ◌∙◌}
use mathlib.Core.Logic.{◌≢◌}
use mathlib.Core.Bool.{Bool, true, false}
use mathlib.Core.List.{List}
use native.Mathlib.Omega.{arith}
use native.Mathlib.Decide.{ℕ_discrete}
use lib.ListN.{length}
use Rattle.rules.specs.Store.{Name, no_object, no_lockword}
use Rattle.rules.specs.Valid.{LiveObject, Objects, Lives, LiveCap, ChildIn, Climbs, top, step, Caps, IsMaster}
use Rattle.rules.specs.Valid.{LockwordFits, BoxFits, Valid}
use Rattle.rules.specs.Limit as Limit
use Rattle.layout.specs.Layout as Layout
use Rattle.layout.specs.Rows.{flag_of, count_of, length_of, text_in, data_in, sum_of}
use Rattle.layout.specs.Rows.{master_of, size_of, first_block_of, owner_of, parent_of, next_block_of}
use Rattle.layout.specs.View.{is_process, view}
use Rattle.layout.specs.Shape.{Shape}
use Rattle.layout.specs.WellFormed.{Sized, Typed, Cells, WellFormed}
use Rattle.layout.specs.Fields.{ProcessFits, Fields}
use Rattle.layout.proofs.Field.{field-le, region-length}
use Rattle.layout.proofs.Shaped.{Shaped, shaped}
use Rattle.layout.proofs.Shown.{is-set, process-lives, process-flag}
use Rattle.layout.proofs.Shown.{object-here, object-none, object-lives, object-free, bytes-here, bytes-none}
use Rattle.layout.proofs.Shown.{process-is, lock-here, lock-none, cash-none, marks-none, box-here, box-none}
use Rattle.layout.proofs.Shown.{cap-here, cap-none, cap-object, cap-lives, cap-shown, cap-free, parent_is}
use Rattle.layout.proofs.Shown.{money-here, money-none}
use Rattle.layout.proofs.Room.{room_fits}
use Rattle.layout.proofs.Lengths.{bytes-length, messages-length, messages-short}

module _ (b l w : List ℕ) (t : Typed b l w) (z : Sized b l w) (shape : Shape l) (f : Fields b l w) where
  s : Shaped l
  s = shaped l shape

  -- ---- objects

  object-live : (o : ℕ) → ((view b l w).object o).live ≡ true → LiveObject o ((view b l w).object o)
  object-live o h =
      let alive = object-lives b l w o h in
      let fits = f.objects o alive in
      rw (object-here b l w o alive) (record {
        some = (s.object o alive).low;
        low = (s.object o alive).high;
        volume = fits.volume;
        serial = field-le 65535 64 Layout.SERIAL l o t.links;
        size = fits.size;
      })

  names : (o q : ℕ) → ((view b l w).object o).live ≡ true → ((view b l w).object q).live ≡ true
      → ((view b l w).object o).name ≡ ((view b l w).object q).name → o ≡ q
  names o q ho hq e =
      let lo = object-lives b l w o ho in
      let lq = object-lives b l w q hq in
      let same = rw (object-here b l w o lo, object-here b l w q lq) at e in
      f.names o q lo lq (ap (λ (n : Name). n.volume) same) (ap (λ (n : Name). n.serial) same)

  objects-valid : Objects (view b l w).object
  objects-valid = record {
    live = object-live;
    free = λ o h. object-none b l w o (object-free b l w o h);
    names = names;
    room = room_fits b l w shape.blocks;
  }

  -- ---- capabilities

  cap-live : (i : ℕ) → Lives (view b l w).cap i → LiveCap (view b l w).object i ((view b l w).cap i)
  cap-live i h =
      let alive = cap-lives b l w i h in
      let placed = s.cap i alive in
      let fits = f.caps i alive in
      rw (cap-here b l w i alive) (record {
        some = placed.low;
        low = placed.high;
        p1 = field-le 4294967295 512 Layout.P1 w i t.words;
        p2 = field-le 4294967295 512 Layout.P2 w i t.words;
        rights = fits.rights;
        ordered = fits.ordered;
        owned = rw (object-here b l w (owner_of l i) placed.owner-lives);
      })

  same_object : (i j : ℕ) → ((view b l w).cap i).object ≡ ((view b l w).cap j).object → owner_of l i ≡ owner_of l j
  same_object i j e = sym (cap-object b l w i) ∙ e ∙ cap-object b l w j

  -- a climb of living ones meets living ones only, and there the view shows the links
  climbs : {i : ℕ} {xs : List ℕ} → Climbs (parent_of l) i xs → (i ≢ 0 → owner_of l i ≢ 0)
      → Climbs (λ j. ((view b l w).cap j).parent) i xs
  climbs top h = top
  climbs (step {i = i} {xs = xs} nz c) h =
      step {xs = xs} nz (rw (parent_is b l w i (h nz)) (climbs c (s.cap i (h nz)).parent-lives))

  has-parent : (i : ℕ) → owner_of l i ≢ 0 → ((view b l w).cap i).parent ≢ 0 → parent_of l i ≢ 0
  has-parent i alive nz e = nz (parent_is b l w i alive ∙ e)

  parent-lives : (i : ℕ) → Lives (view b l w).cap i → ((view b l w).cap i).parent ≢ 0
      → Lives (view b l w).cap ((view b l w).cap i).parent
  parent-lives i h nz =
      let alive = cap-lives b l w i h in
      let above = (s.cap i alive).parent-lives (has-parent i alive nz) in
      rw (parent_is b l w i alive) (cap-shown b l w (parent_of l i) above)

  within : (i : ℕ) → Lives (view b l w).cap i → ((view b l w).cap i).parent ≢ 0
      → ChildIn ((view b l w).cap i) ((view b l w).cap ((view b l w).cap i).parent)
  within i h nz =
      let alive = cap-lives b l w i h in
      let placed = s.cap i alive in
      let above = has-parent i alive nz in
      let fits = (f.caps i alive).within above in
      rw (parent_is b l w i alive, cap-here b l w i alive, cap-here b l w (parent_of l i) (placed.parent-lives above))
      (record {
        object = sym (placed.parent-owner above);
        rights = fits.0;
        window = record { start = fits.1; end = fits.2 };
        last_day = fits.3;
      })

  passwords : (i j : ℕ) → Lives (view b l w).cap i → Lives (view b l w).cap j
      → ((view b l w).cap i).object ≡ ((view b l w).cap j).object
      → ((view b l w).cap i).password.p1 ≡ ((view b l w).cap j).password.p1 → i ≡ j
  passwords i j hi hj e p =
      let li = cap-lives b l w i hi in
      let lj = cap-lives b l w j hj in
      f.passwords i j li lj (same_object i j e) (rw (cap-here b l w i li, cap-here b l w j lj) at p)

  master-is : (i : ℕ) → Lives (view b l w).cap i → ((view b l w).cap i).parent ≡ 0 → master_of l (owner_of l i) ≡ i
  master-is i h e =
      let alive = cap-lives b l w i h in
      (s.cap i alive).master-is (sym (parent_is b l w i alive) ∙ e)

  ends : (i : ℕ) → Lives (view b l w).cap i → (xs : List ℕ) × Climbs (λ j. ((view b l w).cap j).parent) i xs
  ends i h =
      let alive = cap-lives b l w i h in
      ((s.cap i alive).ends.0, climbs (s.cap i alive).ends.1 (λ _. alive))

  caps-valid : Caps (view b l w).object (view b l w).cap
  caps-valid = record {
    live = cap-live;
    free = λ i e. cap-none b l w i (cap-free b l w i e);
    passwords = passwords;
    masters = λ i j hi hj e p q.
        sym (master-is i hi p) ∙ ap (λ o. master_of l o) (same_object i j e) ∙ master-is j hj q;
    ends = ends;
    parent = parent-lives;
    within = within;
  }

  -- ---- what an object has

  master-of : (o : ℕ) → ((view b l w).object o).live ≡ true
      → (i : ℕ) × IsMaster o ((view b l w).object o).size ((view b l w).cap i)
  master-of o h =
      let alive = object-lives b l w o h in
      let placed = s.object o alive in
      let owned : owner_of l (master_of l o) ≢ 0 = λ e. omega (arith, placed.low, placed.master-owner) in
      let whole = (f.caps (master_of l o) owned).whole placed.master-parent in (
        master_of l o,
        rw (object-here b l w o alive, cap-here b l w (master_of l o) owned) (record {
          of = placed.master-owner;
          parent = placed.master-parent;
          start = whole.0;
          end = rw placed.master-owner at whole.1;
          last_day = whole.2;
        }),
      )

  bytes-valid : (o : ℕ) → length ((view b l w).bytes o) ≡ ((view b l w).object o).size
  unfolding no_object
  bytes-valid o = go (ℕ_discrete (master_of l o) 0)
    where
      go : Dec (master_of l o ≡ 0) → length ((view b l w).bytes o) ≡ ((view b l w).object o).size
      go (yes e) = rw (bytes-none b l w o e, object-none b l w o e)
      go (no alive) =
          let chain = (s.object o alive).chain in
          rw (bytes-here b l w o alive, object-here b l w o alive)
          (bytes-length (next_block_of l) (data_in b) (size_of l o) (first_block_of l o) chain.0
          (region-length 32832 Layout.DATA b (omega (arith, z.bytes))) chain.1 chain.2)

  -- ---- processes

  process-fits : (o : ℕ) → is_process (master_of l) (flag_of b) o ≡ true → ProcessFits b w o
  process-fits o h =
      (f.objects o (process-lives (master_of l) (flag_of b) o h)).process (process-flag (master_of l) (flag_of b) o h)

  lock-valid : (o : ℕ) → LockwordFits ((view b l w).lock o)
  unfolding no_lockword
  lock-valid o = go (is_process (master_of l) (flag_of b) o) refl
    where
      go : (p : Bool) → is_process (master_of l) (flag_of b) o ≡ p → LockwordFits ((view b l w).lock o)
      go true h = rw (lock-here b l w o h) (record {
        first = (process-fits o h).lock;
        second = field-le 4294967295 64 Layout.LOCK2 w o t.words;
      })
      go false h = rw (lock-none b l w o h) (record { first = omega arith; second = omega arith })

  box-valid : (o : ℕ) → BoxFits ((view b l w).box o)
  box-valid o = go (is_process (master_of l) (flag_of b) o) refl
    where
      go : (p : Bool) → is_process (master_of l) (flag_of b) o ≡ p → BoxFits ((view b l w).box o)
      go true h = rw (box-here b l w o h) (record {
        room = rw (messages-length (length_of b) (sum_of w) (text_in b) (count_of b o) (o * 4)) (process-fits o h).count;
        short = messages-short (length_of b) (sum_of w) (text_in b) (count_of b o) (o * 4) (process-fits o h).length;
      })
      go false h = rw (box-none b l w o h) (record { room = omega arith; short = tt })

  no-process : (o : ℕ) → ((view b l w).object o).process ≡ false → is_process (master_of l) (flag_of b) o ≡ false
  no-process o h = sym (process-is b l w o) ∙ h

  money-valid : (i : ℕ) → (view b l w).money i ≤ 4294967295
  money-valid i = go (ℕ_discrete (owner_of l i) 0)
    where
      go : Dec (owner_of l i ≡ 0) → (view b l w).money i ≤ 4294967295
      go (yes e) = rw (money-none b l w i e) (omega arith)
      go (no alive) = rw (money-here b l w i alive) (field-le 4294967295 512 Layout.MONEY w i t.words)

  -- any 16-bit number
  day-valid : (view b l w).day ≤ Limit.day
  unfolding view
  day-valid = t.links Layout.DAY

  -- ---- the whole

  valid : Valid (view b l w)
  valid = record {
    formed = record {
      objects = objects-valid;
      caps = caps-valid;
      master = master-of;
      bytes = bytes-valid;
      lock = lock-valid;
      box = box-valid;
      no-lock = λ o h. lock-none b l w o (no-process o h);
      no-cash = λ o h. cash-none b l w o (no-process o h);
      no-marks = λ o h. marks-none b l w o (no-process o h);
      no-box = λ o h. box-none b l w o (no-process o h);
      money = money-valid;
      no-money = λ i e. money-none b l w i (cap-free b l w i e);
    };
    total = f.total;
    day = day-valid;
  }

  cells : Cells b l
  cells = record {
    flag = λ o h. (f.objects o (is-set (master_of l o) h)).flag;
    suspended = λ o h. (process-fits o h).suspended;
    waiting = λ o h. (process-fits o h).waiting;
    terminated = λ o h. (process-fits o h).terminated;
    count = λ o h. (process-fits o h).count;
    length = λ o m h. (process-fits o h).length m;
  }

pub formed : {b l w : List ℕ} → Typed b l w → Sized b l w → Shape l → Fields b l w → WellFormed b l w
formed {b} {l} {w} t z s f = record {
  sized = z;
  cells = cells b l w t z s f;
  shape = s;
  valid = valid b l w t z s f;
}
