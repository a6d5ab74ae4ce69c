-- The sum of the masters' moneywords, when one slot of it changes or none.
use Prim.Native.Nat.{ℕ, ◌+◌, ◌≤◌}
use mathlib.Core.Path.{◌≡◌, sym, ◌∙◌}
use mathlib.Core.Logic.{◌≢◌}
use mathlib.Core.Bool.{true, false}
use native.Mathlib.Omega.{arith}
use lib.Dec.{eqb}
use borrow.Author.Tests.{eq-eqb, ne_eqb}
use Rattle.rules.specs.Store.{State, all_masters}
use Rattle.rules.proofs.Tests.{by-eq, pick_yes, pick-not}
use Rattle.rules.proofs.Slots.{sum_same, sum-zero, sum-but}

-- what slot i adds to the sum
unfoldable mast : State → ℕ → ℕ
mast s i = elim (eqb (s.cap i).parent 0) [ true ↦ s.money i | false ↦ 0 ]

module _ (s : State) (i : ℕ) where
  mast-top : (s.cap i).parent ≡ 0 → mast s i ≡ s.money i
  unfolding mast
  mast-top z = pick_yes (eqb (s.cap i).parent 0) (s.money i) 0 (eq-eqb (s.cap i).parent 0 z)

  mast-low : (s.cap i).parent ≢ 0 → mast s i ≡ 0
  unfolding mast
  mast-low z = pick-not (eqb (s.cap i).parent 0) (s.money i) 0 (ne_eqb (s.cap i).parent 0 z)

-- slot i adds nothing: its moneyword is 0, or it is no master's
pub data Idle (s : State) (i : ℕ) : Type 0 where
  holds-none : s.money i ≡ 0 → Idle s i
  no-master : (s.cap i).parent ≢ 0 → Idle s i

-- slot i adds the same to both sums
pub data Alike (s r : State) (i : ℕ) : Type 0 where
  same : (s.cap i).parent ≡ (r.cap i).parent → s.money i ≡ r.money i → Alike s r i
  idle : Idle s i → Idle r i → Alike s r i

mast-idle : (s : State) (i : ℕ) → Idle s i → mast s i ≡ 0
mast-idle s i (holds-none e) = by-eq (s.cap i).parent 0 (λ z. mast-top s i z ∙ e) (mast-low s i)
mast-idle s i (no-master n) = mast-low s i n

mast-alike : (s r : State) (i : ℕ) → Alike s r i → mast s i ≡ mast r i
mast-alike s r i (same e f) = by-eq (s.cap i).parent 0
    (λ z. mast-top s i z ∙ f ∙ sym (mast-top r i (sym e ∙ z)))
    (λ n. mast-low s i n ∙ sym (mast-low r i (λ z. n (e ∙ z))))
mast-alike s r i (idle a b) = mast-idle s i a ∙ sym (mast-idle r i b)

-- all slots alike
pub masters-same : (s r : State) → ((j : ℕ) → Alike s r j) → all_masters r ≡ all_masters s
unfolding all_masters mast
masters-same s r h = sym (sum_same 512 (mast s) (mast r) (λ j a b. mast-alike s r j (h j)))

-- all but slot i, which has no parent in either
pub masters-but : (s r : State) (i : ℕ) → 1 ≤ i → i ≤ 512 → ((j : ℕ) → j ≢ i → Alike s r j)
    → (s.cap i).parent ≡ 0 → (r.cap i).parent ≡ 0
    → all_masters r + s.money i ≡ all_masters s + r.money i
unfolding all_masters mast
masters-but s r i a b h p q =
    let e = sum-but 512 (mast s) (mast r) i a b (λ j n. sym (mast-alike s r j (h j n))) in
    omega (arith, e, mast-top s i p, mast-top r i q)

-- no moneyword
pub masters-none : (s : State) → ((i : ℕ) → s.money i ≡ 0) → all_masters s ≡ 0
unfolding all_masters mast
masters-none s h = sum-zero 512 (mast s) (λ i a b. mast-idle s i (holds-none (h i)))
