-- No refusal has the number of a call that was done.
use Prim.Native.Nat.{ℕ}
use mathlib.Core.Path.{◌≡◌, refl, sym, ap, ◌∙◌}
use mathlib.Core.Logic.{◌≢◌}
use mathlib.Core.Bool.{true, false, false≢true}
use lib.Dec.{ltb}
use Rattle.values.specs.declared.refusal.Refusal.{Refusal}
use Rattle.values.specs.declared.refusal.Refusal.TheVariants.{IllFormed, OutOfRange, NotRunning, CannotPay, NotFound, RightMissing, OutsideWindow, NotProcess, TooLittle, Overflows, NotMaster, Taken, NoSpace, BoxFull, BoxEmpty, NotRevivable, WrongLength, CountPasses, Expired, EarlierDay, NoneWillDo}
use Rattle.values.specs.Refusals.{number_of}

above-0 : (r : Refusal) → ltb 0 (number_of r) ≡ true
above-0 IllFormed = refl
above-0 OutOfRange = refl
above-0 NotRunning = refl
above-0 CannotPay = refl
above-0 NotFound = refl
above-0 RightMissing = refl
above-0 OutsideWindow = refl
above-0 NotProcess = refl
above-0 TooLittle = refl
above-0 Overflows = refl
above-0 NotMaster = refl
above-0 Taken = refl
above-0 NoSpace = refl
above-0 BoxFull = refl
above-0 BoxEmpty = refl
above-0 NotRevivable = refl
above-0 WrongLength = refl
above-0 CountPasses = refl
above-0 Expired = refl
above-0 EarlierDay = refl
above-0 NoneWillDo = refl

pub number-some : (r : Refusal) → number_of r ≢ 0
number-some r z = absurd (false≢true (sym (ap (ltb 0) z) ∙ above-0 r))
