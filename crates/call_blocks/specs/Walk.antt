-- A chain of blocks, followed.
use Rattle.std.specs.Prelude.{ℕ, zero, suc, ◌≤◌, ◌<◌, List}
use Rattle.rules.specs.Limit as Limit
use Rattle.layout.specs.Rows.{next_block_of}

-- the block n steps after block k: after the last comes 0, and after 0 comes 0
unfoldable pub hop : (ℕ → ℕ) → ℕ → ℕ → ℕ
hop next zero k = k
hop next (suc n) k = hop next n (next k)

-- the first n steps from head on stay among the blocks
abbrev pub Blocked : List ℕ → ℕ → ℕ → Type 0
Blocked l head n = (i : ℕ) → i < n → hop (next_block_of l) i head ≤ Limit.blocks
