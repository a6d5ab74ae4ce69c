-- What every list of bills adds up to: 02, CR 7, "However the picks are split into bills, a pattern's accepted bills, the
-- first passed 0 and each later one the count last handed back, add up to the charge for their picks."
use Rattle.std.specs.Prelude.{ℕ, ◌+◌, ◌≡◌, Bool, true, false, List, [], ◌∷◌, eqb}
use Rattle.rules.specs.Code as Code
use Rattle.call_steps.specs.declared.request.Name.{Name}
use Rattle.call_steps.specs.declared.request.Capability.{Capability}
use Rattle.kernel_step.specs.Slices.{Slices}
use Rattle.product_royalties.specs.declared.billed.Billed.{Billed}
use Rattle.product_royalties.specs.Charge.{charge}
use Rattle.product_royalties.specs.Bills.{Bills}

-- one bill of a list: the caller, the capability presented, the picks billed, the slices that are lent; what is handed back,
-- and the slices that are left. Between two bills anything may happen to the store
pub record Event : Type 0 where
  pub caller : Name
  pub presented : Capability
  pub picks : ℕ
  pub was : Slices
  pub billed : Billed
  pub is : Slices

-- it is as the contract of `bill` says
abbrev pub Happens : ℕ → Event → Type 0
Happens p e = Bills e.caller e.presented p e.picks e.billed e.was e.is

-- each is passed the count last handed back, the first one p
unfoldable pub Follow : ℕ → List Event → Type 0
Follow p [] = Unit {0}
Follow p (e ∷ es) = Happens p e × Follow e.billed.count es

-- the count last handed back
unfoldable pub last_count : ℕ → List Event → ℕ
last_count p [] = p
last_count p (e ∷ es) = last_count e.billed.count es

abbrev pub is_done : Event → Bool
is_done e = eqb e.billed.code Code.done

-- a number of each accepted bill, added up
unfoldable pub accepted : (Event → ℕ) → List Event → ℕ
accepted f [] = 0
accepted f (e ∷ es) = elim (is_done e) [ true ↦ f e + accepted f es | false ↦ accepted f es ]

-- what the accepted bills took, and their picks
abbrev pub sums : List Event → ℕ
sums = accepted (λ e. e.billed.sum)

abbrev pub picks : List Event → ℕ
picks = accepted (λ e. e.picks)

-- of a list of bills from count 0 on
pub record Adds (es : List Event) : Type 0 where
  pub sum : sums es ≡ charge (picks es)
  pub count : last_count 0 es ≡ picks es

-- every list of bills, done and refused, in any stores, by any callers, with any capabilities
unfoldable pub BillsAddUp : Type 0
BillsAddUp = (es : List Event) → Follow 0 es → Adds es
