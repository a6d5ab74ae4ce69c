-- Third generic edit: object x is put in slot o, where no capability is for the object there. make_obj puts its new
-- object, delete_cap of a master puts none.
use Prim.Native.Nat.{ℕ, ◌+◌, ◌≤◌}
use mathlib.Core.Path.{◌≡◌, refl, sym, ap, ◌∙◌}
use mathlib.Core.Logic.{◌≢◌}
use mathlib.Core.Bool.{Bool, true, false}
use mathlib.Core.List.{List, []}
use native.Mathlib.Omega.{arith}
use lib.Dec.{lit<}
use lib.ListN.{length, replicate, length-replicate}
use Rattle.rules.specs.Slots.{at}
use Rattle.rules.specs.Store.{Marks, Object, State, no_lockword, no_marks, no_object, blocks, free_blocks, sums_in}
use Rattle.rules.specs.Store.{all_cash, all_masters, all_boxes, money_in}
use Rattle.rules.specs.Valid.{LiveObject, Objects, Lives, Caps, ProcessOnly, LockwordFits, BoxFits}
use Rattle.rules.specs.Changes.{new_object}
use Rattle.rules.specs.Ledger.{Ledger}
use Rattle.rules.proofs.Slots.{at-by, at-else, at_all, at_both, sum-at}
use Rattle.rules.proofs.Sound.{Sound, parts}
use Rattle.rules.proofs.Link.{Linking}

module _ (s : State) (o : ℕ) (x : Object) (alone : (i : ℕ) → Lives s.cap i → (s.cap i).object ≢ o) where
  abbrev object' : ℕ → Object
  object' = at s.object o x

  -- every capability has the object that it had
  other : (i : ℕ) → Lives s.cap i → object' (s.cap i).object ≡ s.object (s.cap i).object
  other i h = at-else s.object o x (s.cap i).object (alone i h)

  -- ---- the store

  -- what is asked of x
  pub record Goes : Type 0 where
    pub some : 1 ≤ o
    pub low : o ≤ 64
    pub fits : x.live ≡ true → LiveObject o x
    pub free : x.live ≡ false → x ≡ no_object
    pub unique : x.live ≡ true → (j : ℕ) → (s.object j).live ≡ true → (s.object j).name ≢ x.name
    pub room : blocks x.size ≤ free_blocks s + blocks (s.object o).size

  module _ (S : Sound s) (A : Goes) where
    objects-place : Objects (at s.object o x)
    unfolding free_blocks
    objects-place = record {
      live = at-by (λ j y. y.live ≡ true → LiveObject j y) s.object o x A.fits (λ j n. S.objects.live j);
      free = at-by (λ j y. y.live ≡ false → y ≡ no_object) s.object o x A.free (λ j n. S.objects.free j);
      names = λ i j a b.
          at-by (λ i y. y.live ≡ true → y.name ≡ (object' j).name → i ≡ j) s.object o x
          (λ u. at-by (λ j z. z.live ≡ true → x.name ≡ z.name → o ≡ j) s.object o x
          (λ v e. refl) (λ j n v e. absurd (A.unique u j v (sym e))) j b)
          (λ i m u. at-by (λ j z. z.live ≡ true → (s.object i).name ≡ z.name → i ≡ j) s.object o x
          (λ v e. absurd (A.unique v i u e)) (λ j n v. S.objects.names i j u v) j b) i a;
      room =
          let r = sum-at 64 (λ (y : Object). blocks y.size) s.object o x A.some A.low in
          omega (arith, r, A.room, S.objects.room);
    }

    caps-place : Caps (at s.object o x) s.cap
    caps-place = record {
      live = λ i h.
          let w = S.caps.live i h in
          record {
            some = w.some;
            low = w.low;
            p1 = w.p1;
            p2 = w.p2;
            rights = w.rights;
            ordered = w.ordered;
            owned = ap (λ (y : Object). y.live) (other i h) ∙ w.owned;
          };
      free = S.caps.free;
      passwords = S.caps.passwords;
      masters = S.caps.masters;
      ends = S.caps.ends;
      parent = S.caps.parent;
      within = S.caps.within;
    }

    -- what only a process has, with v in slot o
    only-place : {B : Type 0} (f : ℕ → B) (v z : B) → ProcessOnly s.object f z → (x.process ≡ false → v ≡ z)
        → ProcessOnly (at s.object o x) (at f o v) z
    only-place f v z g w = at_both (λ j (y : Object) b. y.process ≡ false → b ≡ z) s.object f o x v w (λ j n. g j)

    abbrev new-marks : Bool → Marks
    new-marks b = record { suspended = b; waiting = false; terminated = false }

    marks-place : (b : Bool) → b ≡ false → new-marks b ≡ no_marks
    unfolding no_marks
    marks-place b e = ap new-marks e

    pub sound-place : Sound (new_object s o x)
    unfolding new_object no_lockword
    sound-place = parts objects-place caps-place
        (at_both (λ j (b : List ℕ) (y : Object). length b ≡ y.size) s.bytes s.object o (replicate x.size 0) x
        (length-replicate x.size 0) (λ j n. S.bytes j))
        (record {
          fits = at_all LockwordFits s.lock o no_lockword S.lock.fits
              (record { first = lit< tt; second = omega arith });
          only = only-place s.lock no_lockword no_lockword S.lock.only (λ e. refl);
        })
        (only-place s.cash 0 0 S.cash (λ e. refl))
        (only-place s.marks (new-marks x.process) no_marks S.marks (marks-place x.process))
        (record {
          fits = at_all BoxFits s.box o [] S.box.fits (record { room = omega arith; short = tt });
          only = only-place s.box [] [] S.box.only (λ e. refl);
        })
        S.money

    -- what the old object's slot held is gone
    pub total-place : money_in (new_object s o x) + s.cash o + sums_in (s.box o) ≡ money_in s
    unfolding new_object money_in all_cash all_boxes all_masters sums_in
    total-place = omega (
      arith,
      sum-at 64 (λ (n : ℕ). n) s.cash o 0 A.some A.low,
      sum-at 64 sums_in s.box o [] A.some A.low,
    )

  -- ---- the ledger

  -- a living object's name has lockword 0 there
  pub link-place : (l : Ledger) → Linking s l → (x.live ≡ true → l.lock x.name ≡ no_lockword)
      → Linking (new_object s o x) l
  unfolding new_object
  link-place l K zero = record {
    num = K.num;
    slot = K.slot;
    linked = record {
      none = K.linked.none;
      fits = λ i h.
          let f = K.linked.fits i h in
          record {
            some = f.some;
            low = f.low;
            living = f.living;
            name = ap (λ (y : Object). y.name) (other i h) ∙ f.name;
            password = f.password;
          };
      back = K.linked.back;
      above = K.linked.above;
      later = K.linked.later;
    };
    purse = K.purse;
    locked = at_both (λ j (y : Object) w. y.live ≡ true → l.lock y.name ≡ w) s.object s.lock o x no_lockword
        zero (λ j n. K.locked j);
  }
