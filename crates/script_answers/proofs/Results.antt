-- The results of the calls by their numbers.
use Prim.Native.Nat.{ℕ, suc, ◌≤◌}
use mathlib.Core.Path.{◌≡◌, refl, sym, ap, subst}
use mathlib.Core.Logic.{◌≢◌}
use mathlib.Core.List.{[]}
use native.Mathlib.Omega.{arith}
use lib.Arith.{lt_of_le-ne}
use Rattle.rules.specs.Rights.{Op, op}
use Rattle.rules.specs.Call.{Answer}
use Rattle.rules.specs.Script.{results}
use Rattle.rules.proofs.Tests.{by-eq}
use Rattle.script_lines.proofs.Rows.{past}

-- every number is one of 0 to 16, or more
by_call : (P : ℕ → Type 0) → P 0 → P 1 → P 2 → P 3 → P 4 → P 5 → P 6 → P 7 → P 8 → P 9 → P 10 → P 11 → P 12 → P 13
    → P 14 → P 15 → P 16 → ((n : ℕ) → 17 ≤ n → P n) → (n : ℕ) → P n
by_call P a0 a1 a2 a3 a4 a5 a6 a7 a8 a9 a10 a11 a12 a13 a14 a15 a16 more n =
    at 0 a0 (at 1 a1 (at 2 a2 (at 3 a3 (at 4 a4 (at 5 a5 (at 6 a6 (at 7 a7 (at 8 a8
    (at 9 a9 (at 10 a10 (at 11 a11 (at 12 a12 (at 13 a13 (at 14 a14
    (at 15 a15 (at 16 a16 (more n))))))))))))))))) (omega arith)
  where
    at : (k : ℕ) → P k → (suc k ≤ n → P n) → k ≤ n → P n
    at k p rest low = by-eq n k (λ e. subst P (sym e) p) (λ ne. rest (lt_of_le-ne low (λ e. ne (sym e))))

-- the calls that give nothing
pub other-results : (a : Answer) (n : ℕ) → n ≢ 1 → n ≢ 2 → n ≢ 4 → n ≢ 5 → n ≢ 7 → n ≢ 14 → results (op n) a ≡ []
unfolding op results
other-results a = by_call (λ n. n ≢ 1 → n ≢ 2 → n ≢ 4 → n ≢ 5 → n ≢ 7 → n ≢ 14 → results (op n) a ≡ [])
    (λ _ _ _ _ _ _. refl) (λ h _ _ _ _ _. absurd (h refl)) (λ _ h _ _ _ _. absurd (h refl)) (λ _ _ _ _ _ _. refl)
    (λ _ _ h _ _ _. absurd (h refl)) (λ _ _ _ h _ _. absurd (h refl)) (λ _ _ _ _ _ _. refl) (λ _ _ _ _ h _. absurd (h refl))
    (λ _ _ _ _ _ _. refl) (λ _ _ _ _ _ _. refl) (λ _ _ _ _ _ _. refl) (λ _ _ _ _ _ _. refl)
    (λ _ _ _ _ _ _. refl) (λ _ _ _ _ _ _. refl) (λ _ _ _ _ _ h. absurd (h refl)) (λ _ _ _ _ _ _. refl)
    (λ _ _ _ _ _ _. refl)
    (λ n h _ _ _ _ _ _. ap (λ (o : Op). results o a) (past n h))
