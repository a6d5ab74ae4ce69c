-- What every list of picks adds up to: 02, CR 3, "After any done pick i the repeat's steps up to it lie below the exact
-- i × C / N by less than one count, or equal it, and after pick N they total C." And that no refused pick is paid for.
use Rattle.std.specs.Prelude.{ℕ, ◌+◌, ◌-◌, ◌*◌, ◌≤◌, ◌<◌, ◌≡◌, ◌≢◌, Bool, true, false, List, [], ◌∷◌, ◌++◌, eqb}
use Rattle.rules.specs.Code as Code
use Rattle.rules.specs.Store.{object_named}
use Rattle.call_steps.specs.declared.request.Name.{Name}
use Rattle.call_steps.specs.declared.request.Capability.{Capability}
use Rattle.call_steps.specs.Request.{name_of}
use Rattle.call_steps.specs.Paying.{terminated_bytes}
use Rattle.kernel_step.specs.Slices.{Slices, Store, state_of}
use Rattle.product_drive.specs.declared.repeat.Repeat.{Repeat}
use Rattle.product_drive.specs.declared.repeat.Place.{Place}
use Rattle.product_drive.specs.declared.picked.Picked.{Picked}
use Rattle.product_drive.specs.Drive.{up_to, start}
use Rattle.product_drive.specs.Picks.{refused_pick, Picks}

-- one pick of a list: the caller, the capability presented, the slices that are lent; what is handed back, and the slices
-- that are left. Between two picks anything may happen to the store
pub record Event : Type 0 where
  pub caller : Name
  pub presented : Capability
  pub was : Slices
  pub picked : Picked
  pub is : Slices

-- it is as the contract of `pick` says
abbrev pub Happens : Repeat → Place → Event → Type 0
Happens p d e = Picks e.caller e.presented p d e.picked e.was e.is

-- each is given the place last handed back, the first one place d
unfoldable pub Follow : Repeat → Place → List Event → Type 0
Follow p d [] = Unit {0}
Follow p d (e ∷ es) = Happens p d e × Follow p e.picked.place es

-- the place last handed back
unfoldable pub last_place : Place → List Event → Place
last_place d [] = d
last_place d (e ∷ es) = last_place e.picked.place es

abbrev pub is_done : Event → Bool
is_done e = eqb e.picked.code Code.done

-- n steps, and then those of this pick if it is done; none where pick N began the repeat anew
unfoldable pub steps_with : ℕ → Event → ℕ
steps_with n e = elim (is_done e) [
  | true ↦ elim (eqb e.picked.place.next start.next) [ true ↦ 0 | false ↦ n + e.picked.step ]
  | false ↦ n
]

-- the steps of the done picks since next pick 1 was last handed back
unfoldable pub steps_since : ℕ → List Event → ℕ
steps_since n [] = n
steps_since n (e ∷ es) = steps_since (steps_with n e) es

-- a done pick i, after which the repeat's steps up to it are `sum`
pub record TakesUp (p : Repeat) (i sum : ℕ) (place : Place) : Type 0 where
  pub low : 1 ≤ i
  pub high : i ≤ p.picks
  -- not above the exact i × C / N, and below it by less than one count
  pub at_most : sum * p.picks ≤ i * p.counts
  pub less-than-one : i * p.counts < (sum + 1) * p.picks
  -- "after pick N they total C"
  pub total : i ≡ p.picks → sum ≡ p.counts
  -- "Pick N hands back next pick 1 and steps so far 0."
  pub anew : i ≡ p.picks → place ≡ start
  pub onward : i < p.picks → place ≡ record { next = i + 1; steps = sum }

-- of a list of picks from next pick 1 on
pub record Adds (p : Repeat) (es : List Event) : Type 0 where
  -- the steps so far are those of the done picks, and the whole part of (i − 1) × C / N
  pub steps : (last_place start es).steps ≡ steps_since 0 es
  pub whole : steps_since 0 es ≡ up_to p ((last_place start es).next - 1)
  pub done : (front back : List Event) (e : Event) → es ≡ front ++ e ∷ back → is_done e ≡ true
      → TakesUp p (last_place start front).next (steps_since 0 front + e.picked.step) e.picked.place
  -- "A refused pick leaves the drive's place and steps unchanged."
  pub refused : (front back : List Event) (e : Event) → es ≡ front ++ e ∷ back → is_done e ≡ false
      → e.picked ≡ refused_pick e.picked.code (last_place start front)

-- every list of picks, done and refused, in any stores, by any callers, each given the place last handed back
unfoldable pub PicksAddUp : Type 0
PicksAddUp = (p : Repeat) (es : List Event) → Follow p start es → Adds p es

-- ---- a refused pick

-- it leaves every slice as it was, but that 4 marks the caller terminated: 7 is never met, nor any refusal after the fee
pub record Unpaid (caller : Name) (code : ℕ) (was is : Slices) : Type 0 where
  pub nothing : code ≢ Code.cannot_pay → Store is was.bytes was.links was.words
  pub marks : code ≡ Code.cannot_pay
      → Store is (terminated_bytes was.bytes (object_named (state_of was) (name_of caller))) was.links was.words
  pub buffer-is : is.buffer ≡ was.buffer

unfoldable pub RefusedUnpaid : Type 0
RefusedUnpaid = (p : Repeat) (d : Place) (e : Event) → Happens p d e → is_done e ≡ false
    → Unpaid e.caller e.picked.code e.was e.is
