-- Functions of slots. A slot is a record number: it counts from 1, and 0 is no record; what the slots hold is a function of
-- the number, so that one slot can be changed and the others stay as they are.
use Rattle.std.specs.Prelude.{ℕ, zero, suc, ◌+◌, Bool, true, false, not, List, [], ◌∷◌, eqb}

-- f with v at slot i
unfoldable pub at : {A : Type 0} → (ℕ → A) → ℕ → A → ℕ → A
at f i v j = elim (eqb j i) [ true ↦ v | false ↦ f j ]

-- the last slot of 1 to n that passes the test, 0 if none does
unfoldable pub find : ℕ → (ℕ → Bool) → ℕ
find zero test = 0
find (suc n) test = elim (test (suc n)) [ true ↦ suc n | false ↦ find n test ]

-- some slot of 1 to n passes the test
unfoldable pub some : ℕ → (ℕ → Bool) → Bool
some n test = not (eqb (find n test) 0)

-- the sum of f over the slots 1 to n
unfoldable pub sum_over : ℕ → (ℕ → ℕ) → ℕ
sum_over zero f = 0
sum_over (suc n) f = f (suc n) + sum_over n f

-- 1 for true, 0 for false
unfoldable pub one : Bool → ℕ
one true = 1
one false = 0

-- how many of the slots 1 to n pass the test
unfoldable pub count_over : ℕ → (ℕ → Bool) → ℕ
count_over n test = sum_over n (λ i. one (test i))

-- some slot of the list passes the test
unfoldable pub any : (ℕ → Bool) → List ℕ → Bool
any test [] = false
any test (i ∷ l) = elim (test i) [ true ↦ true | false ↦ any test l ]

-- j is in the list
unfoldable pub mem : ℕ → List ℕ → Bool
mem j l = any (λ i. eqb i j) l

-- a climb: i, the one above it, and so on until 0; at most n of them
unfoldable pub climb : ℕ → (ℕ → ℕ) → ℕ → List ℕ
climb zero above i = []
climb (suc n) above i = elim (eqb i 0) [ true ↦ [] | false ↦ i ∷ climb n above (above i) ]

-- the last of a list, d if it is empty
unfoldable pub last_of : List ℕ → ℕ → ℕ
last_of [] d = d
last_of (i ∷ l) d = last_of l i

-- a theorem that computes with this file's definitions says `unfolding` and this name
unfoldable pub computes : Unit {0}
unfolding at find some sum_over one count_over any mem climb last_of
computes = tt
