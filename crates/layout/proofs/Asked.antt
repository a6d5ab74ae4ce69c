-- And the other way: a well-formed store passes the tests, it has what is asked of its fields. No link of a tree is
-- looked at for that.
use Prim.Native.Nat.{ℕ, ◌≤◌}
use mathlib.Core.Path.{◌≡◌, sym, ap, ◌∙◌}
use mathlib.Core.Logic.{◌≢◌}
use mathlib.Core.List.{List}
use lib.Bits.{bit_and}
use Rattle.rules.specs.Store.{Object}
use Rattle.rules.specs.Valid.{Lives}
use Rattle.rules.specs.Limit as Limit
use Rattle.layout.specs.Rows.{volume_of, flag_of, master_of, serial_of, size_of, owner_of, parent_of, rights_of}
use Rattle.layout.specs.Rows.{last_day_of}
use Rattle.layout.specs.Rows.{p1_of, start_of, end_of}
use Rattle.layout.specs.View.{view}
use Rattle.layout.specs.WellFormed.{Plain}
use Rattle.layout.specs.Fields.{ProcessFits, ObjectFits, CapFits, Fields}
use Rattle.layout.proofs.Shown.{set-yes, process-yes, object-here, object-lives, object-shown, lock-here}
use Rattle.layout.proofs.Shown.{cap-here, cap-object, cap-lives, cap-shown, parent_is}

module _ (b l w : List ℕ) (g : Plain b l w) where
  -- ---- objects

  process-fits : (o : ℕ) → master_of l o ≢ 0 → flag_of b o ≢ 0 → ProcessFits b w o
  process-fits o alive flag =
      let h = process-yes (master_of l) (flag_of b) o alive flag in
      let fits = rw (lock-here b l w o h) at (g.valid.formed.lock o) in
      record {
        suspended = g.cells.suspended o h;
        waiting = g.cells.waiting o h;
        terminated = g.cells.terminated o h;
        lock = fits.first;
        count = g.cells.count o h;
        length = λ m. g.cells.length o m h;
      }

  object-fits : (o : ℕ) → master_of l o ≢ 0 → ObjectFits b l w o
  object-fits o alive =
      let fits = rw (object-here b l w o alive) at (g.valid.formed.objects.live o (object-shown b l w o alive)) in
      record {
        volume = fits.volume;
        size = fits.size;
        flag = g.cells.flag o (set-yes (master_of l o) alive);
        process = process-fits o alive;
      }

  names : (o q : ℕ) → master_of l o ≢ 0 → master_of l q ≢ 0 → volume_of b o ≡ volume_of b q → serial_of l o ≡ serial_of l q
      → o ≡ q
  names o q ho hq v e = g.valid.formed.objects.names o q (object-shown b l w o ho) (object-shown b l w q hq)
      (rw (object-here b l w o ho, object-here b l w q hq) (λ k. record { volume = v k; serial = e k }))

  -- ---- capabilities

  -- the one with no parent is the master of its object
  whole : (i : ℕ) → owner_of l i ≢ 0 → parent_of l i ≡ 0
      → (start_of w i ≡ 0) × (end_of w i ≡ size_of l (owner_of l i)) × (last_day_of l i ≡ Limit.day)
  whole i alive z =
      let k = g.valid.formed.caps in
      let shown = cap-shown b l w i alive in
      let owned = rw (cap-here b l w i alive) at (k.live i shown).owned in
      let m = g.valid.formed.master (owner_of l i) owned in
      let lives : Lives (view b l w).cap m.0 = λ q. alive (sym m.1.of ∙ q) in
      let same = m.1.of ∙ sym (cap-object b l w i) in
      let e = k.masters m.0 i lives shown same m.1.parent (parent_is b l w i alive ∙ z) in
      let is = rw (e, cap-here b l w i alive) at m.1 in
      let object = object-here b l w (owner_of l i) (object-lives b l w (owner_of l i) owned) in
      (is.start, is.end ∙ ap (λ (x : Object). x.size) object, is.last_day)

  within : (i : ℕ) → owner_of l i ≢ 0 → parent_of l i ≢ 0
      → (bit_and (rights_of l i) (rights_of l (parent_of l i)) ≡ rights_of l i)
      × (start_of w (parent_of l i) ≤ start_of w i)
      × (end_of w i ≤ end_of w (parent_of l i))
      × (last_day_of l i ≤ last_day_of l (parent_of l i))
  within i alive above =
      let k = g.valid.formed.caps in
      let shown = cap-shown b l w i alive in
      let is = parent_is b l w i alive in
      let nz : ((view b l w).cap i).parent ≢ 0 = λ e. above (sym is ∙ e) in
      let lives = cap-lives b l w (parent_of l i) (rw is at (k.parent i shown nz)) in
      let here = rw (is, cap-here b l w i alive, cap-here b l w (parent_of l i) lives) at (k.within i shown nz) in
      (here.rights, here.window.start, here.window.end, here.last_day)

  cap-fits : (i : ℕ) → owner_of l i ≢ 0 → CapFits l w i
  cap-fits i alive =
      let fits = rw (cap-here b l w i alive) at (g.valid.formed.caps.live i (cap-shown b l w i alive)) in
      record {
        rights = fits.rights;
        ordered = fits.ordered;
        whole = whole i alive;
        within = within i alive;
      }

  passwords : (i j : ℕ) → owner_of l i ≢ 0 → owner_of l j ≢ 0 → owner_of l i ≡ owner_of l j → p1_of w i ≡ p1_of w j → i ≡ j
  passwords i j hi hj e p = g.valid.formed.caps.passwords i j (cap-shown b l w i hi) (cap-shown b l w j hj)
      (cap-object b l w i ∙ e ∙ sym (cap-object b l w j)) (rw (cap-here b l w i hi, cap-here b l w j hj) p)

pub fields : {b l w : List ℕ} → Plain b l w → Fields b l w
fields {b} {l} {w} g = record {
  objects = object-fits b l w g;
  names = names b l w g;
  caps = cap-fits b l w g;
  passwords = passwords b l w g;
  total = g.valid.total;
}
