-- What is asked of one capability, and of one part of it.
use Rattle.std.specs.Prelude.{ℕ, ◌≤◌, ◌≡◌, ◌≢◌, List}
use Rattle.std.specs.Int.Bits.{bit_and}
use Rattle.rules.specs.Limit as Limit
use Rattle.layout.specs.Rows.{size_of, owner_of, rights_of, last_day_of, start_of, end_of}
use Rattle.layout.specs.Fields.{CapFits}

-- a slot is free or fits
abbrev pub CapMeets : List ℕ → List ℕ → ℕ → Type 0
CapMeets l w i = owner_of l i ≢ 0 → CapFits l w i

-- a window is the whole of object o, and the last day of capability i a master's
abbrev pub Whole : List ℕ → ℕ → ℕ → ℕ → ℕ → Type 0
Whole l i o start end = (start ≡ 0) × (end ≡ size_of l o) × (last_day_of l i ≡ Limit.day)

-- capability i lies in capability p
abbrev pub InParent : List ℕ → List ℕ → ℕ → ℕ → Type 0
InParent l w i p =
    (bit_and (rights_of l i) (rights_of l p) ≡ rights_of l i)
    × (start_of w p ≤ start_of w i)
    × (end_of w i ≤ end_of w p)
    × (last_day_of l i ≤ last_day_of l p)
