-- The two kinds of store that make a whole slice: zeros everywhere, and a chain of free records with its head.
use Rattle.std.specs.Prelude.{ℕ, zero, suc, ◌+◌, ◌<◌, List, length, set, replicate}

-- n cells of 0
unfoldable pub zeros : ℕ → List ℕ
zeros n = replicate n 0

-- in the row of links that starts at off, record k names the one before it and so on down to record 1, which ends the
-- chain with 0
unfoldable pub chain : ℕ → ℕ → List ℕ → List ℕ
chain off zero l = l
chain off (suc k) l = chain off k (set l (off + suc k) k)

-- 01, "free records are chained by a next index": the cell head names the last record, and the records from it down to
-- 1 are a chain in the row of links that starts at off. So the last slots are taken first, where a look-up starts
unfoldable pub free_chain : ℕ → ℕ → ℕ → List ℕ → List ℕ
free_chain head off last l = chain off last (set l head last)

-- where such a chain fits
pub record ChainFits (head off last : ℕ) (l : List ℕ) : Type 0 where
  pub head_in : head < length l
  pub row_in : off + last < length l
