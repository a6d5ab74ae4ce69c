-- Bills on examples, which the reference is held to as well: a count and the picks billed, whether the count stays within its
-- range, and the sum and the count that a done bill hands back; where it does not, no sum, and the count that was passed.
use Rattle.std.specs.Prelude.{ℕ, ◌+◌, Bool, true, false, List, [], ◌∷◌, leb}
use Rattle.product_royalties.specs.Charge.{max_count, bill_for}

pub record Edge : Type 0 where
  pub count : ℕ
  pub picks : ℕ
  pub fitting : Bool
  pub sum : ℕ
  pub after : ℕ

unfoldable pub edge : (count picks : ℕ) → Bool → (sum after : ℕ) → Edge
edge count picks fitting sum after = record { count = count; picks = picks; fitting = fitting; sum = sum; after = after }

unfoldable pub edges : List Edge
edges =
    -- "24 picks and then 1 give bills of 0 and 1; 10,001 picks cost 400."
    edge 0 24 true 0 24
    ∷ edge 24 1 true 1 25
    ∷ edge 0 10001 true 400 10001
    ∷ edge 0 0 true 0 0
    -- at the end of the first picks
    ∷ edge 0 9999 true 399 9999
    ∷ edge 9999 1 true 1 10000
    ∷ edge 10000 1 true 0 10001
    ∷ edge 10000 33 true 0 10033
    ∷ edge 10000 34 true 1 10034
    ∷ edge 0 10034 true 401 10034
    -- at the end of the next
    ∷ edge 0 99999 true 3099 99999
    ∷ edge 99999 1 true 1 100000
    ∷ edge 0 100000 true 3100 100000
    ∷ edge 100000 1 true 0 100001
    ∷ edge 100000 49 true 0 100049
    ∷ edge 100000 50 true 1 100050
    ∷ edge 9999 90002 true 2701 100001
    -- at the end of the count
    ∷ edge 0 4294967295 true 85900445 4294967295
    ∷ edge 4294967294 1 true 0 4294967295
    ∷ edge 4294967295 0 true 0 4294967295
    ∷ edge 4294967295 1 false 0 4294967295
    ∷ edge 1 4294967295 false 0 1
    ∷ edge 4294967295 4294967295 false 0 4294967295
    ∷ []

-- what the definitions give for the count and the picks of an edge
unfoldable pub given : Edge → Edge
given e = elim (leb (e.count + e.picks) max_count) [
  | true ↦ edge e.count e.picks true (bill_for e.count e.picks) (e.count + e.picks)
  | false ↦ edge e.count e.picks false 0 e.count
]

-- a theorem that computes with this file's definitions says `unfolding` and this name
unfoldable pub computes : Unit {0}
unfolding edge edges given
computes = tt
