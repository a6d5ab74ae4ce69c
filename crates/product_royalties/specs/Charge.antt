-- 02, CR 7, "Royalties by the pick": what picks cost, and a bill for some more of them.
use Rattle.std.specs.Prelude.{ℕ, zero, suc, ◌+◌, ◌-◌, ◌/◌, true, false, leb}

-- ---- the tariff by name, each number once on this side

-- "The first 10,000 picks"
abbrev pub first_picks : ℕ
first_picks = 10000

-- "cost 40 thousandths each"
abbrev pub first_rate : ℕ
first_rate = 40

-- "those after up to 100,000"
abbrev pub next_picks : ℕ
next_picks = 100000

-- "cost 30"
abbrev pub next_rate : ℕ
next_rate = 30

-- "and the rest 20"
abbrev pub last_rate : ℕ
last_rate = 20

-- thousandths in the smallest credit: "divided by 1,000"
abbrev pub credit : ℕ
credit = 1000

-- "The pick count p is kept beside the store, one for each pattern, from 0 to 4,294,967,295"
abbrev pub max_count : ℕ
max_count = 4294967295

-- ---- the charge

-- what pick i of a pattern costs, counted from 1
unfoldable pub rate : ℕ → ℕ
rate i = elim (leb i first_picks) [
  | true ↦ first_rate
  | false ↦ elim (leb i next_picks) [ true ↦ next_rate | false ↦ last_rate ]
]

-- "the exact sum of thousandths" of p picks
unfoldable pub thousandths : ℕ → ℕ
thousandths zero = 0
thousandths (suc p) = thousandths p + rate (suc p)

-- "The charge for p picks in total is the whole part of the exact sum of thousandths divided by 1,000."
unfoldable pub charge : ℕ → ℕ
charge p = thousandths p / credit

-- "A bill for n more picks is the charge for p + n less the charge for p"
unfoldable pub bill_for : (p n : ℕ) → ℕ
bill_for p n = charge (p + n) - charge p
