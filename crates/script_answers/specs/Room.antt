-- How many bytes a line of the output takes at most: twenty digits for its own number, ten for each other, and a byte after each.
use Rattle.std.specs.Prelude.{ℕ}

-- an answer: at most 259 numbers after the line's own
abbrev pub ANSWER : ℕ
ANSWER = 2870

-- a line's number and a refusal; `0 2`
abbrev pub REFUSAL : ℕ
REFUSAL = 32

-- `T` and four totals
abbrev pub TOTALS : ℕ
TOTALS = 46
