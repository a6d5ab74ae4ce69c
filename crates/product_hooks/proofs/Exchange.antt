-- One exchange of bit blocks: where mask m has bit k, bits k and s + k change places.
use Prim.Native.Nat.{ℕ, zero, suc, ◌+◌, ◌*◌, ◌-◌, ◌/◌, ◌%◌, ◌^◌, ◌≤◌, ◌<◌, min}
use mathlib.Core.Path.{◌≡◌, refl, sym, ap, ap₂, ◌∙◌, subst}
use native.Mathlib.Nat.{min-zero, min-eq_left, mod-eq_of_lt, mul-le-mul_right, lt_of_le_of_lt, add-sub_cancel_left}
use native.Mathlib.Omega.{arith}
use native.Mathlib.Decide.{dec_le}
use lib.Bits.{bit_and, bit_xor, differ, and_le_r}
use Rattle.product_hooks.specs.Turned.{bit_of}
use Rattle.product_hooks.proofs.Bits.{one-case, differ-le, bit_le, bit-and, bit-xor, bit-right, bit-left-high, bit-left-low}

-- the bits of m that differ from those s above
unfoldable pub moved : ℕ → ℕ → ℕ → ℕ
moved s m x = bit_and (bit_xor x (x / 2 ^ s)) m

-- what the code computes
unfoldable pub exchange : ℕ → ℕ → ℕ → ℕ
unfolding moved
exchange s m x = bit_xor (bit_xor x (moved s m x)) (moved s m x * 2 ^ s % 2 ^ 64)

abbrev pick : ℕ → ℕ → ℕ → ℕ
pick zero a b = a
pick (suc n) a b = b

-- where bit k comes from
unfoldable pub from : ℕ → ℕ → ℕ → ℕ
from s m k = pick (bit_of m k) (pick (bit_of (m * 2 ^ s) k) k (k - s)) (s + k)

-- ---- single bits

differ-zero : (a : ℕ) → differ a 0 ≡ a
differ-zero zero = refl
differ-zero (suc a) = refl

-- the lower of two that change places
lower : (a b : ℕ) → a ≤ 1 → b ≤ 1 → differ (differ a (differ a b)) 0 ≡ b
lower a b ha hb =
    one-case (λ (a : ℕ). differ (differ a (differ a b)) 0 ≡ b) a ha (λ e. differ-zero b)
    (λ e. one-case (λ (b : ℕ). differ (differ 1 (differ 1 b)) 0 ≡ b) b hb (λ e. refl) (λ e. refl))

-- the higher
higher : (a b : ℕ) → a ≤ 1 → b ≤ 1 → differ (differ b 0) (differ a b) ≡ a
higher a b ha hb =
    one-case (λ (b : ℕ). differ (differ b 0) (differ a b) ≡ a) b hb (λ e. differ-zero a)
    (λ e. one-case (λ (a : ℕ). differ 1 (differ a 1) ≡ a) a ha (λ e. refl) (λ e. refl))

-- ---- the bits of what is moved

moved-bit : (s m x k : ℕ) → bit_of (moved s m x) k ≡ min (differ (bit_of x k) (bit_of x (s + k))) (bit_of m k)
unfolding moved
moved-bit s m x k =
    bit-and (bit_xor x (x / 2 ^ s)) m k
    ∙ ap (λ (b : ℕ). min b (bit_of m k)) (bit-xor x (x / 2 ^ s) k ∙ ap (differ (bit_of x k)) (bit-right x s k))

moved-no : (s m x k : ℕ) → bit_of m k ≡ 0 → bit_of (moved s m x) k ≡ 0
moved-no s m x k e = moved-bit s m x k ∙ ap (min _) e ∙ min-zero _

moved-yes : (s m x k : ℕ) → bit_of m k ≡ 1 → bit_of (moved s m x) k ≡ differ (bit_of x k) (bit_of x (s + k))
moved-yes s m x k e = moved-bit s m x k ∙ ap (min _) e ∙ min-eq_left (differ-le _ _ (bit_le x k) (bit_le x (s + k)))

-- ---- and of what is moved up by s

-- k is below s, or s + d for some d
by-reach : (P : ℕ → Type 0) (s k : ℕ) → (k < s → P k) → ((d : ℕ) → P (s + d)) → P k
by-reach P s k f g = go (dec_le s k) where
  go : Dec (s ≤ k) → P k
  go (yes h) = let e : s + (k - s) ≡ k = omega arith in subst P e (g (k - s))
  go (no h) = f (omega arith)

up-no : (s m x k : ℕ) → bit_of (m * 2 ^ s) k ≡ 0 → bit_of (moved s m x * 2 ^ s) k ≡ 0
up-no s m x k =
    by-reach (λ (k : ℕ). bit_of (m * 2 ^ s) k ≡ 0 → bit_of (moved s m x * 2 ^ s) k ≡ 0) s k
    (λ h e. bit-left-low (moved s m x) s k h)
    (λ d e. bit-left-high (moved s m x) s d ∙ moved-no s m x d (sym (bit-left-high m s d) ∙ e))

up-yes : (s m x k : ℕ) → bit_of (m * 2 ^ s) k ≡ 1 → bit_of (moved s m x * 2 ^ s) k ≡ differ (bit_of x (k - s)) (bit_of x k)
up-yes s m x k =
    by-reach (λ (k : ℕ). bit_of (m * 2 ^ s) k ≡ 1 → bit_of (moved s m x * 2 ^ s) k ≡ differ (bit_of x (k - s)) (bit_of x k)) s k
    (λ h e. absurd (omega (arith, bit-left-low m s k h)))
    (λ d e. bit-left-high (moved s m x) s d
    ∙ moved-yes s m x d (sym (bit-left-high m s d) ∙ e)
    ∙ ap (λ (n : ℕ). differ (bit_of x n) (bit_of x (s + d))) (sym (add-sub_cancel_left s d)))

-- ---- the exchange

fits : (s m x : ℕ) → m * 2 ^ s < 2 ^ 64 → moved s m x * 2 ^ s % 2 ^ 64 ≡ moved s m x * 2 ^ s
unfolding moved
fits s m x h = mod-eq_of_lt (lt_of_le_of_lt (mul-le-mul_right (2 ^ s) (and_le_r (bit_xor x (x / 2 ^ s)) m)) h)

exchange-bits : (s m x k : ℕ) → m * 2 ^ s < 2 ^ 64
    → bit_of (exchange s m x) k ≡ differ (differ (bit_of x k) (bit_of (moved s m x) k)) (bit_of (moved s m x * 2 ^ s) k)
unfolding exchange
exchange-bits s m x k h =
    bit-xor (bit_xor x (moved s m x)) (moved s m x * 2 ^ s % 2 ^ 64) k
    ∙ ap₂ differ (bit-xor x (moved s m x) k) (ap (λ (n : ℕ). bit_of n k) (fits s m x h))

-- bit k of an exchange: m and m moved up by s have no bit in common
pub exchange-bit : (s m x k : ℕ) → m * 2 ^ s < 2 ^ 64 → bit_of m k + bit_of (m * 2 ^ s) k ≤ 1
    → bit_of (exchange s m x) k ≡ bit_of x (from s m k)
unfolding from
exchange-bit s m x k h a =
    exchange-bits s m x k h
    ∙ one-case (λ (b : ℕ). bit_of m k ≡ b → D ≡ bit_of x (pick b (pick (bit_of (m * 2 ^ s) k) k (k - s)) (s + k))) (bit_of m k) (bit_le m k)
    (λ e z. one-case (λ (b : ℕ). bit_of (m * 2 ^ s) k ≡ b → D ≡ bit_of x (pick b k (k - s))) (bit_of (m * 2 ^ s) k) (bit_le (m * 2 ^ s) k)
    (λ e u. ap₂ (λ (p q : ℕ). differ (differ (bit_of x k) p) q) (moved-no s m x k z) (up-no s m x k u) ∙ differ-zero _ ∙ differ-zero _)
    (λ e u. ap₂ (λ (p q : ℕ). differ (differ (bit_of x k) p) q) (moved-no s m x k z) (up-yes s m x k u)
    ∙ higher (bit_of x (k - s)) (bit_of x k) (bit_le x (k - s)) (bit_le x k))
    refl)
    (λ e o. ap₂ (λ (p q : ℕ). differ (differ (bit_of x k) p) q) (moved-yes s m x k o) (up-no s m x k (omega (arith, o, a)))
    ∙ lower (bit_of x k) (bit_of x (s + k)) (bit_le x k) (bit_le x (s + k)))
    refl
  where
    D : ℕ
    D = differ (differ (bit_of x k) (bit_of (moved s m x) k)) (bit_of (moved s m x * 2 ^ s) k)
