-- 01, "A done delete or rename leaves the scratch all zero; every other call leaves it unchanged."; 02, CR 6: "in its whole length".
use Rattle.std.specs.Prelude.{ℕ, true, false, List, eqb, length, replicate}

-- what a delete or rename that answers with the code n leaves of the scratch
unfoldable pub scratch_left : ℕ → List ℕ → List ℕ
scratch_left n scratch = elim (eqb n 0) [ true ↦ replicate (length scratch) 0 | false ↦ scratch ]
