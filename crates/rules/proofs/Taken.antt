-- The example: by the theorem, and by computation.
use Prim.Native.Nat.{◌-◌}
use mathlib.Core.Path.{◌≡◌, refl, ap}
use mathlib.Core.Bool.{false≢true}
use lib.Dec.{lit≤}
use Rattle.rules.specs.Limit as Limit
use Rattle.rules.specs.Slots as Slots
use Rattle.rules.specs.Store as Store
use Rattle.rules.specs.Rights as Rights
use Rattle.rules.specs.Call as Call
use Rattle.rules.specs.Password as Password
use Rattle.rules.specs.Refusals as Refusals
use Rattle.rules.specs.Update as Update
use Rattle.rules.specs.Changes as Changes
use Rattle.rules.specs.Calls as Calls
use Rattle.rules.specs.Rule as Rule
use Rattle.rules.specs.Store.{State, fresh}
use Rattle.rules.specs.Rights.{derive_cap, rename_obj, op}
use Rattle.rules.specs.Call.{Choice}
use Rattle.rules.specs.Demand.{Words, FreshWords, FreeObject, FreeCap, Allowed}
use Rattle.rules.proofs.Fresh.{valid-fresh}
use Rattle.rules.specs.Meaning as Meaning
use Rattle.rules.specs.Meaning.{SameMeaning}
use Rattle.rules.specs.Blind.{MeaningBlind}
use Rattle.rules.specs.Taken as Taken
use Rattle.rules.specs.Taken.{supply, password, makes, low, high, after, Example}
use Rattle.rules.proofs.Meant.{same_self}
use Rattle.rules.proofs.Blind.{meaning-blind}

fits : FreshWords supply password
unfolding Taken.computes
fits = record { amount = lit≤ tt; p1 = lit≤ tt; p2 = lit≤ tt }

words : Words makes
unfolding Taken.computes Store.computes Call.computes
words = record {
  presented1 = lit≤ tt;
  presented2 = lit≤ tt;
  drawn1 = lit≤ tt;
  drawn2 = lit≤ tt;
  start = lit≤ tt;
  end = lit≤ tt;
  sum = lit≤ tt;
  lock1 = lit≤ tt;
  lock2 = lit≤ tt;
}

-- the call presents nothing
not-derive : op makes.number ≡ derive_cap → ⊥
unfolding Taken.computes Rights.computes
not-derive e = false≢true (ap Rights.presents e)

not-rename : op makes.number ≡ rename_obj → ⊥
unfolding Taken.computes Rights.computes
not-rename e = false≢true (ap Rights.presents e)

low_free : FreeObject (fresh supply password) 1 × FreeCap (fresh supply password) 1
unfolding FreeObject FreeCap Store.computes Slots.computes
low_free = ((lit≤ tt, lit≤ tt, refl), (lit≤ tt, lit≤ tt, refl))

high-free : FreeObject (fresh supply password) (Limit.objects - 1) × FreeCap (fresh supply password) (Limit.caps - 1)
unfolding FreeObject FreeCap Store.computes Slots.computes
high-free = ((lit≤ tt, lit≤ tt, refl), (lit≤ tt, lit≤ tt, refl))

allowed : (h : Choice) → FreeObject (fresh supply password) h.object × FreeCap (fresh supply password) h.cap
    → Allowed (fresh supply password) makes h
allowed h f = record {
  words = words;
  choice = λ d. record {
    object = λ e. f.0;
    made = λ e. f.1;
    derived = λ e. absurd (not-derive e);
    renamed = λ e. absurd (not-rename e);
  };
}

same : SameMeaning (after low) (after high)
unfolding MeaningBlind low high after
same =
    let s : State = fresh supply password in
    let v = valid-fresh supply password fits in
    (meaning-blind s s makes low high v v (same_self s) (allowed low low_free) (allowed high high-free)).1

pub example : Example
unfolding Taken.computes Meaning.computes Slots.computes Store.computes Rights.computes Call.computes
    Password.computes Refusals.computes Update.computes Changes.computes Calls.computes Rule.computes
example = record {
  here = refl;
  there = refl;
  same = same;
  process-seen = refl;
  thing-seen = refl;
  none_seen = refl;
  master-seen = refl;
  none-there = refl;
}
