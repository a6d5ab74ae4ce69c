-- The digits of a number: those of its tenth, and one more.
use Prim.Native.Nat.{ℕ, zero, suc, ◌+◌, ◌*◌, ◌/◌, ◌%◌, ◌^◌, ◌≤◌, ◌<◌}
use mathlib.Core.Path.{◌≡◌, refl, sym, ap, ◌∙◌, subst}
use mathlib.Core.Logic.{◌≢◌}
use mathlib.Core.List.{List, [], ◌∷◌, ◌++◌}
use native.Mathlib.Omega.{arith}
use native.Mathlib.Nat.{div-add-mod', mod-lt, div-lt_self, pow-suc, div-lt_iff_lt-mul}
use lib.Dec.{ltb}
use lib.Arith.{digits_div, digits_mod}
use lib.ListN.{length, length-append}
use Rattle.rules.proofs.Tests.{by_bool, pick_yes, pick-not}
use borrow.Author.Tests.{ltb-true, ltb-false, lt-ltb, le-ltb}
use Rattle.script_text.specs.Numeral.{numeral, numeral_in}

small-in : (f n : ℕ) → n < 10 → numeral_in f n ≡ (48 + n) ∷ []
unfolding numeral_in
small-in zero n h = refl
small-in (suc f) n h = pick_yes (ltb n 10) _ _ (lt-ltb n 10 h)

large-in : (f n : ℕ) → 10 ≤ n → numeral_in (suc f) n ≡ numeral_in f (n / 10) ++ ((48 + n % 10) ∷ [])
unfolding numeral_in
large-in f n h = pick-not (ltb n 10) _ _ (le-ltb n 10 h)

tenth : (n m : ℕ) → n ≤ suc m → n / 10 ≤ m
tenth zero m h = omega arith
tenth (suc n) m h = omega (arith, div-lt_self {n = suc n} {k = 10} (omega arith) (omega arith))

-- whatever f is, from n on
enough : (f g n : ℕ) → n ≤ f → n ≤ g → numeral_in f n ≡ numeral_in g n
enough zero g n h k = rw (small-in g n (omega arith), small-in zero n (omega arith))
enough (suc f) zero n h k = rw (small-in (suc f) n (omega arith), small-in zero n (omega arith))
enough (suc f) (suc g) n h k = by_bool (ltb n 10)
    (λ e. let small : n < 10 = ltb-true n 10 e in small-in (suc f) n small ∙ sym (small-in (suc g) n small))
    (λ e. let large : 10 ≤ n = ltb-false n 10 e in
    large-in f n large
    ∙ ap (λ (l : List ℕ). l ++ ((48 + n % 10) ∷ [])) (enough f g (n / 10) (tenth n f h) (tenth n g k))
    ∙ sym (large-in g n large))

-- one digit
pub numeral-digit : (d : ℕ) → d < 10 → numeral d ≡ (48 + d) ∷ []
unfolding numeral
numeral-digit d h = small-in d d h

-- "no leading zeros": the digits of n from 10 on are those of its tenth, and its last
pub numeral-tenth : (n : ℕ) → 10 ≤ n → numeral n ≡ numeral (n / 10) ++ ((48 + n % 10) ∷ [])
unfolding numeral
numeral-tenth zero h = absurd (omega arith)
numeral-tenth (suc n) h =
    large-in n (suc n) h
    ∙ ap (λ (l : List ℕ). l ++ ((48 + suc n % 10) ∷ []))
    (enough n (suc n / 10) (suc n / 10) (tenth (suc n) n (omega arith)) (omega arith))

-- a digit after those of v, which is not 0
pub numeral-more : (v d : ℕ) → v ≢ 0 → d < 10 → numeral (v * 10 + d) ≡ numeral v ++ ((48 + d) ∷ [])
numeral-more v d nz h =
    numeral-tenth (v * 10 + d) (omega arith)
    ∙ rw (digits_div v {m = 10} {r = d} h, digits_mod v {m = 10} {r = d} h)

-- by the digits: what holds of one, and with each more
pub numeral-by : (P : ℕ → Type 0) → ((d : ℕ) → d < 10 → P d)
    → ((v d : ℕ) → v ≢ 0 → d < 10 → P v → P (v * 10 + d)) → (n : ℕ) → P n
numeral-by P one more n = go n n (omega arith)
  where
    step : (n : ℕ) → (n < 10 → P n) → (10 ≤ n → P (n / 10)) → P n
    step n f g = by_bool (ltb n 10) (λ e. f (ltb-true n 10 e))
        (λ e. let large : 10 ≤ n = ltb-false n 10 e in
        subst P (div-add-mod' n 10)
        (more (n / 10) (n % 10) (λ z. omega (arith, z)) (mod-lt n (omega arith)) (g large)))

    go : (f n : ℕ) → n ≤ f → P n
    go zero n h = one n (omega arith)
    go (suc f) n h = step n (one n) (λ _. go f (n / 10) (tenth n f h))

-- ---- how many

length-in : (k n : ℕ) → n < 10 ^ suc k → length (numeral n) ≤ suc k
length-in zero n h = omega (arith, ap length (numeral-digit n h))
length-in (suc k) n h = by_bool (ltb n 10)
    (λ e. omega (arith, ap length (numeral-digit n (ltb-true n 10 e))))
    (λ e.
    omega (
      arith,
      ap length (numeral-tenth n (ltb-false n 10 e)),
      length-append (numeral (n / 10)) ((48 + n % 10) ∷ []),
      length-in k (n / 10)
          ((div-lt_iff_lt-mul {k = 10} {x = n} {y = 10 ^ suc k} (omega arith)).1
          (subst (λ (m : ℕ). n < m) (pow-suc 10 (suc k)) h)),
    ))

-- no number of 64 bits has more than twenty digits
pub long-length : (n : ℕ) → n ≤ 18446744073709551615 → length (numeral n) ≤ 20
long-length n h = length-in 19 n (omega arith)

-- and none of 32 bits more than ten
pub numeral-length : (n : ℕ) → n ≤ 4294967295 → length (numeral n) ≤ 10
numeral-length n h = length-in 9 n (omega arith)
