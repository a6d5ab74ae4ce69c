-- The thirteen rights as a table: a number looked for in it, and how large a right is.
use Prim.Native.Nat.{ℕ, ◌≤◌}
use mathlib.Core.Path.{◌≡◌, refl, ap, ◌∙◌}
use mathlib.Core.Bool.{Bool, true, false, not, ◌||◌}
use mathlib.Core.List.{List, [], ◌∷◌}
use lib.Dec.{eqb, leb}
use borrow.Author.Tests.{leb-true}
use Rattle.std.specs.List.{list_any}
use Rattle.rules.specs.Limit as Limit
use Rattle.rules.specs.Slots.{any, mem}
use Rattle.rules.specs.Rights.{thirteen, is_right}
use Rattle.rules.proofs.Tests.{not-is-false}
use Rattle.rules.proofs.Climbs.{mem-one, any_none}

-- ---- the library's search in a list is the rules'

either : (b c : Bool) → (b || c) ≡ elim b [ true ↦ true | false ↦ c ]
either true c = refl
either false c = refl

pub listed : (n : ℕ) (l : List ℕ) → list_any (λ i. eqb i n) l ≡ mem n l
unfolding mem any
listed n [] = refl
listed n (x ∷ l) = either (eqb x n) (list_any (λ i. eqb i n) l) ∙ ap (λ c. elim (eqb x n) [ true ↦ true | false ↦ c ]) (listed n l)

-- ---- none is larger than all together

pub right-low : (n : ℕ) → is_right n ≡ true → n ≤ Limit.rights
unfolding is_right thirteen any
right-low n h =
    leb-true n Limit.rights (not-is-false (leb n Limit.rights)
    (any_none (λ i. not (leb i Limit.rights)) thirteen refl n (mem-one n thirteen h)))
