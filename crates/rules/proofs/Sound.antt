-- The parts of a well-formed store, apart from "every object has one tree with one sound master", which a call breaks on
-- its way; and what stays when one part changes.
use Prim.Native.Nat.{ℕ, ◌≤◌}
use mathlib.Core.Path.{◌≡◌, refl, ◌∙◌}
use mathlib.Core.Logic.{◌≢◌}
use mathlib.Core.Bool.{true}
use mathlib.Core.List.{List, []}
use native.Mathlib.Omega.{arith}
use lib.ListN.{length}
use Rattle.rules.specs.Store.{Lockword, Marks, Message, Object, Cap, State, no_lockword, no_marks, money_in}
use Rattle.rules.specs.Store.{all_cash, all_masters, all_boxes}
use Rattle.rules.specs.Valid.{Objects, Caps, IsMaster, ProcessOnly, LockwordFits, BoxFits, Formed}
use Rattle.rules.specs.Update.{with_house, with_day, with_bytes, with_lock, with_cash, with_marks, with_box, with_cap, with_money}

-- ---- the parts

pub record Locks (object : ℕ → Object) (lock : ℕ → Lockword) : Type 0 where
  pub fits : (o : ℕ) → LockwordFits (lock o)
  pub only : ProcessOnly object lock no_lockword

pub record Boxes (object : ℕ → Object) (box : ℕ → List Message) : Type 0 where
  pub fits : (o : ℕ) → BoxFits (box o)
  pub only : ProcessOnly object box []

pub record Moneywords (cap : ℕ → Cap) (money : ℕ → ℕ) : Type 0 where
  pub fits : (i : ℕ) → money i ≤ 4294967295
  pub only : (i : ℕ) → (cap i).object ≡ 0 → money i ≡ 0

abbrev pub Bytes : (ℕ → Object) → (ℕ → List ℕ) → Type 0
Bytes object bytes = (o : ℕ) → length (bytes o) ≡ (object o).size

-- the object in slot o, of this size, has a master
abbrev pub HasMaster : (ℕ → Cap) → ℕ → ℕ → Type 0
HasMaster cap o size = (i : ℕ) × IsMaster o size (cap i)

-- every object has
abbrev pub Mastered : (ℕ → Object) → (ℕ → Cap) → Type 0
Mastered object cap = (o : ℕ) → (object o).live ≡ true → HasMaster cap o (object o).size

pub record Sound (s : State) : Type 0 where
  pub objects : Objects s.object
  pub caps : Caps s.object s.cap
  pub bytes : Bytes s.object s.bytes
  pub lock : Locks s.object s.lock
  pub cash : ProcessOnly s.object s.cash 0
  pub marks : ProcessOnly s.object s.marks no_marks
  pub box : Boxes s.object s.box
  pub money : Moneywords s.cap s.money

-- the parts, one after the other
pub parts : {s : State} → Objects s.object → Caps s.object s.cap → Bytes s.object s.bytes
    → Locks s.object s.lock → ProcessOnly s.object s.cash 0 → ProcessOnly s.object s.marks no_marks
    → Boxes s.object s.box → Moneywords s.cap s.money → Sound s
parts o c b l p m x w = record {
  objects = o;
  caps = c;
  bytes = b;
  lock = l;
  cash = p;
  marks = m;
  box = x;
  money = w;
}

pub sound-of : {s : State} → Formed s → Sound s
sound-of G = parts G.objects G.caps G.bytes (record { fits = G.lock; only = G.no-lock })
    G.no-cash G.no-marks (record { fits = G.box; only = G.no-box })
    (record { fits = G.money; only = G.no-money })

pub formed-of : {s : State} → Sound s → Mastered s.object s.cap → Formed s
formed-of S m = record {
  objects = S.objects;
  caps = S.caps;
  master = m;
  bytes = S.bytes;
  lock = S.lock.fits;
  box = S.box.fits;
  no-lock = S.lock.only;
  no-cash = S.cash;
  no-marks = S.marks;
  no-box = S.box.only;
  money = S.money.fits;
  no-money = S.money.only;
}

pub object-some : {object : ℕ → Object} → Objects object → (o : ℕ) → (object o).live ≡ true → o ≢ 0
object-some O o e z = let w = (O.live o e).some in omega arith

-- ---- one part changed, the others handed on as they stand

module _ {s : State} (S : Sound s) where
  pub sound-house : (x : ℕ) → Sound (with_house s x)
  unfolding with_house
  sound-house x = parts S.objects S.caps S.bytes S.lock S.cash S.marks S.box S.money

  pub sound-day : (x : ℕ) → Sound (with_day s x)
  unfolding with_day
  sound-day x = parts S.objects S.caps S.bytes S.lock S.cash S.marks S.box S.money

  pub sound-bytes : (f : ℕ → List ℕ) → Bytes s.object f → Sound (with_bytes s f)
  unfolding with_bytes
  sound-bytes f h = parts S.objects S.caps h S.lock S.cash S.marks S.box S.money

  pub sound-lock : (f : ℕ → Lockword) → Locks s.object f → Sound (with_lock s f)
  unfolding with_lock
  sound-lock f h = parts S.objects S.caps S.bytes h S.cash S.marks S.box S.money

  pub sound-cash : (f : ℕ → ℕ) → ProcessOnly s.object f 0 → Sound (with_cash s f)
  unfolding with_cash
  sound-cash f h = parts S.objects S.caps S.bytes S.lock h S.marks S.box S.money

  pub sound-marks : (f : ℕ → Marks) → ProcessOnly s.object f no_marks → Sound (with_marks s f)
  unfolding with_marks
  sound-marks f h = parts S.objects S.caps S.bytes S.lock S.cash h S.box S.money

  pub sound-box : (f : ℕ → List Message) → Boxes s.object f → Sound (with_box s f)
  unfolding with_box
  sound-box f h = parts S.objects S.caps S.bytes S.lock S.cash S.marks h S.money

  pub sound-money : (f : ℕ → ℕ) → Moneywords s.cap f → Sound (with_money s f)
  unfolding with_money
  sound-money f h = parts S.objects S.caps S.bytes S.lock S.cash S.marks S.box h

  pub sound-caps : (f : ℕ → Cap) (g : ℕ → ℕ) → Caps s.object f → Moneywords f g → Sound (with_money (with_cap s f) g)
  unfolding with_money with_cap
  sound-caps f g C h = parts S.objects C S.bytes S.lock S.cash S.marks S.box h

-- ---- what is kept

-- a call leaves r of s: r is well formed, and has the money total of s
pub record Kept (s r : State) : Type 0 where
  pub formed : Formed r
  pub total : money_in r ≡ money_in s

-- nothing changed
pub kept_same : {s : State} → Formed s → Kept s s
kept_same G = record { formed = G; total = refl }

-- the day is looked at by none of this
pub kept-day : {s : State} → Formed s → (x : ℕ) → Kept s (with_day s x)
unfolding with_day money_in all_cash all_masters all_boxes
kept-day G x = record { formed = formed-of (sound-day (sound-of G) x) G.master; total = refl }

-- one change after another
pub kept_then : {s r q : State} → Kept s r → Kept r q → Kept s q
kept_then a b = record { formed = b.formed; total = b.total ∙ a.total }
