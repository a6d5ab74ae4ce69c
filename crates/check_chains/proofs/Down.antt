-- A loop that counts k down from n and tests P at each slot: its answer says whether P holds above k.
use mathlib.Core.Path.{◌≡◌, ◌∙◌}
use mathlib.Core.Bool.{Bool, true, ◌&&◌}
use Prim.Native.Nat.{ℕ, ◌-◌, ◌≤◌, ◌<◌}
use native.Mathlib.Omega.{arith}
use native.Mathlib.Decide.{ℕ_discrete}
use Rattle.rules.proofs.Tests.{both_true, all2}
use Rattle.layout.specs.Decides.{Decides}
use Rattle.layout.proofs.Deciding.{yes-it, as-well}
use Rattle.check_chains.specs.Marking.{AtSlots}

-- P holds at each slot above k, up to n
abbrev pub Above : ℕ → ℕ → (ℕ → Type 0) → Type 0
Above n k P = (i : ℕ) → k < i → i ≤ n → P i

-- r says exactly whether it does
pub record Down (n k : ℕ) (P : ℕ → Type 0) (r : Bool) : Type 0 where
  pub high : k ≤ n
  pub answer : Decides (Above n k P) r

pub down-start : (n : ℕ) (P : ℕ → Type 0) → Down n n P true
down-start n P = record { high = omega arith; answer = yes-it (λ i a b. absurd (omega arith)) }

module _ {n k : ℕ} {P : ℕ → Type 0} {r : Bool} (now : Down n k P r) where
  pub down-on : {q s : Bool} → 1 ≤ k → Decides (P k) q → s ≡ (r && q) → Down n (k - 1) P s
  down-on {q} {s} low here e = record {
    high = omega (arith, now.high);
    answer = record {
      sound = λ t. let h = all2 r q (turned t) in above (now.answer.sound h.0) (here.sound h.1);
      complete = λ all. e ∙ both_true r q
          (now.answer.complete (λ i a. all i (omega arith)))
          (here.complete (all k (omega arith) now.high));
    };
  }
    where
      turned : s ≡ true → (r && q) ≡ true
      turned t = rw e at t

      above : Above n k P → P k → Above n (k - 1) P
      above more at-k i a b = go (ℕ_discrete i k)
        where
          go : Dec (i ≡ k) → P i
          go (yes z) = rw z at-k
          go (no ne) = more i (omega arith) b

  pub down-end : k ≤ 0 → Decides (AtSlots n P) r
  down-end z = as-well now.answer (λ all i a. all i (omega arith)) (λ all i a. all i (omega arith))
