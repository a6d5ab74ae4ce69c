-- What is compared of a capability, by its cells, and what the comparisons come to.
use Prim.Native.Nat.{ℕ}
use mathlib.Core.Path.{◌≡◌, sym, ap, ◌∙◌}
use mathlib.Core.Logic.{◌≢◌}
use mathlib.Core.Bool.{Bool, true, false, not, ◌&&◌}
use mathlib.Core.List.{List}
use native.Mathlib.Omega.{arith}
use lib.Dec.{leb}
use borrow.Author.Tests.{ne_eqb}
use Rattle.rules.specs.Code as Code
use Rattle.rules.specs.Store.{Cap, State}
use Rattle.rules.specs.Rights.{DERIVE_CAP, has}
use Rattle.rules.specs.Call.{Capability}
use Rattle.rules.specs.Password.{presented}
use Rattle.rules.specs.Refusals.{first, showing}
use Rattle.rules.specs.Calls.{lies_in}
use Rattle.rules.specs.Questions.{Wish}
use Rattle.rules.specs.Theorems.{lendable}
use Rattle.layout.specs.View.{view}
use Rattle.layout.specs.WellFormed.{Plain}
use Rattle.layout.proofs.Shown.{cap-here}
use Rattle.call_steps.specs.Run.{Held, window_in}
use Rattle.call_steps.proofs.Admitting.{showing-none}
use Rattle.call_purse.specs.declared.way.Way.TheVariants.{Out}
use Rattle.call_purse.specs.Climb.{stops, climb_stops}
use Rattle.call_purse.proofs.Reaching.{stops-is}
use Rattle.question_lend.specs.Places.{will_do}

module _ (b l w : List ℕ) (k : ℕ) (held : Held l k) (x : Wish) where
  abbrev s : State
  s = view b l w

  window-is : ((view b l w).cap k).window ≡ window_in w k
  window-is = ap (λ (c : Cap). c.window) (cap-here b l w k held.live)

  pub no-right : has ((view b l w).cap k).rights x.rights ≡ false → false ≡ lendable s k x
  unfolding lendable
  no-right r = rw r

  -- window and last day, together
  abbrev pub roomy : Bool
  roomy = lies_in x.window (window_in w k) && leb x.last_day ((view b l w).cap k).last_day

  module _ (right : has ((view b l w).cap k).rights x.rights ≡ true) where
    pub no_room : roomy ≡ false → false ≡ lendable s k x
    unfolding lendable
    no_room r = rw (right, window-is, r)

    pub by-climb : roomy ≡ true → Plain b l w → not (climb_stops Out l w k x.sum) ≡ lendable s k x
    unfolding lendable stops
    by-climb r g = rw (right, window-is, r) (ap not (sym (stops-is b l w g k held Out x.sum)))

-- ---- an entry is presented: n is what 5, 19 and 6 come to, k its slot

module _ (s : State) (me : ℕ) (x : Wish) (e : Capability) (n k : ℕ)
    (slot : k ≡ presented s me e) (shows : n ≡ first (showing s (presented s me e) DERIVE_CAP)) where
  pub not-shown : n ≢ Code.done → false ≡ will_do s me x e
  unfolding will_do
  not-shown nz = rw (sym shows, ne_eqb n Code.done nz)

  module _ (none : n ≡ Code.done) where
    pub shown-some : k ≢ 0
    shown-some z = omega (arith, none, shows, showing-none s (presented s me e) DERIVE_CAP (sym slot ∙ z))

    pub shown-lends : lendable s k x ≡ will_do s me x e
    unfolding will_do
    shown-lends = rw (sym shows ∙ none, slot)
