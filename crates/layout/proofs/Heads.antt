-- A head that no store of a list is to.
use Prim.Native.Nat.{ℕ, ◌+◌}
use mathlib.Core.Path.{◌≡◌, sym, ap, ◌∙◌}
use mathlib.Core.Bool.{true}
use mathlib.Core.List.{List}
use native.Mathlib.Omega.{arith}
use lib.ListN.{get_or}
use Rattle.layout.proofs.Field.{region-at}
use Rattle.layout.proofs.Puts.{Put, puts, Within, beside, region-kept}

pub head-kept : (h : ℕ) (l : List ℕ) (ws : List Put) → beside 1 h ws ≡ true → Within ws
    → get_or (puts ws l) h 0 ≡ get_or l h 0
head-kept h l ws t s =
    let e : h + 0 ≡ h = omega arith in
    let at : (k : List ℕ) → get_or k (h + 0) 0 ≡ get_or k h 0 = λ k. ap (λ i. get_or k i 0) e in
    sym (region-at 1 h (puts ws l) 0 (omega arith) ∙ at (puts ws l))
    ∙ ap (λ r. get_or r 0 0) (region-kept 1 h l ws t s)
    ∙ region-at 1 h l 0 (omega arith) ∙ at l
