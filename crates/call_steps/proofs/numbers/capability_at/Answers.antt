-- `capability_at` reads a name and two numbers.
use mathlib.Core.List.{[], ◌∷◌}
use Prim.Native.Nat.{◌+◌}
use lib.ListN.{get_or}
use mathlib.Core.Path.{ap}
use Rattle.call_steps.specs.Numbers.{capability_at}
use Rattle.call_steps.proofs.numbers.capability_at.Goals as goal

pub returns : goal.returns
unfolding capability_at
returns c =
    let a = c.args in
    let l = a.numbers.now in
    ap (λ x. record { name = x; password = get_or l (a.i + 2) 0 ∷ get_or l (a.i + 3) 0 ∷ [] }) c.name_at.ensures
